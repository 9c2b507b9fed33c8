-- Bytes that a string has are among its units, and the other way round.
use Rattle.std.proofs.Common.{◌≡◌, ◌≢◌, ℕ, zero, suc, ◌<◌, ◌≤◌, Bool, true, false, ◌||◌, eqb, List, [], ◌∷◌, length, get_or, refl, subst, arith, inl, inr}
use Rattle.std.specs.List.{AllByRecursion}
use Rattle.std.proofs.lemmas.Bool.{eq-eqb, eqb-true}
use Rattle.memchr.specs.Find.{Nowhere, Passes, is_byte, is_byte2}
use Rattle.wtf8_core.specs.Wtf8.{IsWtf8}
use Rattle.wtf8_core.specs.UnitsOf.{units_of}
use Rattle.os_command_line.specs.Windows.{IsBlank}
use Rattle.os_command_line.specs.WindowsWriting.{HasNo}
use Rattle.os_command_line.proofs.lemmas.ShellForms.{nowhere}
use Rattle.os_command_line.proofs.lemmas.WindowsOneReading.{past_blank}
use Rattle.os_command_line.proofs.lemmas.WindowsStrings.{each_unit, each_byte}

pub not_there : (wanted : ℕ) → wanted < 0x80 → (b : List ℕ) → IsWtf8 b → Nowhere (Passes (is_byte wanted) b) 0 (length b) → HasNo wanted (units_of b)
not_there wanted lt b w none =
    each_unit (λ u. u ≢ wanted) (λ x ge e. omega (arith, lt, ge, e)) b w (nowhere (is_byte wanted) (λ u. u ≢ wanted) (λ x n e. n (eq-eqb x wanted e)) b none)

blank_past : (x : ℕ) → 0x80 ≤ x → ¬ (IsBlank x)
blank_past x ge = past_blank x (omega (arith, ge))

abbrev is_blank_byte : ℕ → Bool
is_blank_byte = is_byte2 0x20 0x09

left : (a b : Bool) → a ≡ true → a || b ≡ true
left true b e = refl
left false b e = cc

right : (a b : Bool) → b ≡ true → a || b ≡ true
right true b e = refl
right false b e = e

blank_passes : (x : ℕ) → IsBlank x → is_blank_byte x ≡ true
blank_passes x (inl e) = left (eqb x 0x20) (eqb x 0x09) (eq-eqb x 0x20 e)
blank_passes x (inr e) = right (eqb x 0x20) (eqb x 0x09) (eq-eqb x 0x09 e)

passes_blank : (x : ℕ) → is_blank_byte x ≡ true → IsBlank x
passes_blank x e = either (eqb x 0x20) refl
  where
    either : (a : Bool) → eqb x 0x20 ≡ a → IsBlank x
    either true f = inl (eqb-true x 0x20 f)
    either false f = inr (eqb-true x 0x09 (subst (λ a. a || eqb x 0x09 ≡ true) f e))

pub no_blank_there : (b : List ℕ) → IsWtf8 b → Nowhere (Passes is_blank_byte b) 0 (length b) → AllByRecursion (λ u. ¬ (IsBlank u)) (units_of b)
no_blank_there b w none = each_unit (λ u. ¬ (IsBlank u)) blank_past b w (nowhere is_blank_byte (λ u. ¬ (IsBlank u)) (λ x n h. n (blank_passes x h)) b none)

pub blank_there : (b : List ℕ) → IsWtf8 b → (k : ℕ) → k < length b → Passes is_blank_byte b k → AllByRecursion (λ u. ¬ (IsBlank u)) (units_of b) → ⊥
blank_there b w k lt h all = each b k lt (each_byte (λ u. ¬ (IsBlank u)) blank_past b w all) (passes_blank (get_or b k 0) h)
  where
    each : (t : List ℕ) (k : ℕ) → k < length t → AllByRecursion (λ u. ¬ (IsBlank u)) t → ¬ (IsBlank (get_or t k 0))
    each [] k lt h = absurd (omega (arith, lt))
    each (x ∷ t) zero lt h = h.0
    each (x ∷ t) (suc k) lt h = each t k (omega (arith, lt)) h.1
