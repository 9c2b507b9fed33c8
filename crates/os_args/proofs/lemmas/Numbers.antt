-- Which words start as numbers.
use Rattle.std.proofs.Common.{◌≡◌, ◌⊎◌, ℕ, List, [], ◌++◌, sym, ◌∙◌, arith, subst}
use Rattle.wtf8_core.specs.Occurrence.{IsPrefix}
use Rattle.os_args.specs.Word.{dash, point, StartsWithDigit, StartsWithFraction, StartsAsNegative}
use Rattle.os_args.proofs.lemmas.OneReading.{heads, tails}

pub no_digit : (s : List ℕ) → s ≡ [] → ¬ (StartsWithDigit s)
no_digit s e h = let never = sym e ∙ h.joined in cc

-- with a point it starts with no digit
pub no_digit_point : (s t : List ℕ) → s ≡ point ++ t → ¬ (StartsWithDigit s)
no_digit_point s t e h = let same = heads (sym e ∙ h.joined) in let low = h.from in omega arith

pub fraction : (s t : List ℕ) → s ≡ point ++ t → StartsWithDigit t → StartsWithFraction s
fraction s t e h = record { fraction = t; joined = e; digit = h }

pub of_fraction : (s t : List ℕ) → s ≡ point ++ t → StartsWithFraction s → StartsWithDigit t
of_fraction s t e h = subst StartsWithDigit (tails (sym h.joined ∙ e)) h.digit

pub no_fraction : (s : List ℕ) → ¬ (IsPrefix point s) → ¬ (StartsWithFraction s)
no_fraction s n h = n (record { rest = h.fraction; joined = h.joined })

pub negative : (s t : List ℕ) → s ≡ dash ++ t → StartsWithDigit t ⊎ StartsWithFraction t → StartsAsNegative s
negative s t e h = record { number = t; joined = e; starts = h }

pub of_negative : (s t : List ℕ) → s ≡ dash ++ t → StartsAsNegative s → StartsWithDigit t ⊎ StartsWithFraction t
of_negative s t e h = subst (λ x. StartsWithDigit x ⊎ StartsWithFraction x) (tails (sym h.joined ∙ e)) h.starts

pub no_negative : (s : List ℕ) → ¬ (IsPrefix dash s) → ¬ (StartsAsNegative s)
no_negative s n h = n (record { rest = h.number; joined = h.joined })

pub ruleset numbers = (no_digit, no_digit_point, fraction, of_fraction, no_fraction, negative, of_negative, no_negative)
