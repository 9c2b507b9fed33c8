-- The extension of a path is one text.
use Rattle.std.proofs.Common.{◌≡◌, true, false, ℕ, List, [], ◌∷◌, ◌++◌, length, drop, refl, sym, ap, ◌∙◌, subst, append_assoc, append-nil}
use Rattle.std.specs.List.{AllByRecursion}
use Rattle.std.proofs.lemmas.List.{drop_at}
use Rattle.std.proofs.lemmas.List.Elements.{All-from_recursion}
use Rattle.wildcards.specs.declared.separators.Separators.{Separators}
use Rattle.wildcards.specs.declared.separators.Separators.TheVariants as separators
use Rattle.wildcards.specs.Components.{components, separates}
use Rattle.wildcards.specs.Cuts.{IsPlain}
use Rattle.wildcards.specs.Extensions.{LacksDot, IsExtension, LacksExtension}
use Rattle.wildcards.proofs.lemmas.Parts.{one_component, last_of_cut, last_ends}

dot_plain : (o : Separators) → separates o 0x2E ≡ false
dot_plain separators.None = refl
dot_plain separators.Slash = refl
dot_plain separators.SlashAndBackslash = refl

-- what comes after the bytes that are left has neither a separator nor a dot
pub record Passed (o : Separators) (path left : List ℕ) : Type 0 where
  pub after : List ℕ
  pub joined : path ≡ left ++ after
  pub plain : AllByRecursion (λ b. separates o b ≡ false) after
  pub lacks : LacksDot after

module _ (o : Separators) (path left : List ℕ) where
  pub none_passed : left ≡ path → Passed o path left
  none_passed e = record { after = []; joined = sym e ∙ sym (append-nil left); plain = tt; lacks = tt }

  module _ (h : Passed o path left) where
    is_plain : IsPlain o h.after
    is_plain = All-from_recursion (λ b. separates o b ≡ false) h.after h.plain

    pub all_passed : left ≡ [] → LacksExtension (components o path)
    all_passed e = record { before = []; name = h.after; joined = ap (components o) (h.joined ∙ ap (λ z. z ++ h.after) e) ∙ one_component o h.after is_plain; lacks = h.lacks }

    module _ (before : List ℕ) (b : ℕ) (e : left ≡ before ++ b ∷ []) where
      split : path ≡ before ++ b ∷ h.after
      split = h.joined ∙ ap (λ z. z ++ h.after) e ∙ append_assoc before (b ∷ []) h.after

      pub one_passed : ¬ (b ≡ 0x2E) → separates o b ≡ false → Passed o path before
      one_passed other inner = record { after = b ∷ h.after; joined = split; plain = (inner, h.plain); lacks = (other, h.lacks) }

      pub at_separator : separates o b ≡ true → LacksExtension (components o path)
      at_separator parts = record {
        before = components o before;
        name = h.after;
        joined = last_of_cut o path before h.after (record { separator = b; joined = split; parts = parts }) is_plain;
        lacks = h.lacks;
      }

      pub at_dot : b ≡ 0x2E → (after : List ℕ) → after ≡ drop (length left) path → IsExtension (components o path) after
      at_dot dot after f =
          let same : h.after ≡ after = sym (f ∙ ap (drop (length left)) h.joined ∙ drop_at left h.after (length left) refl) in
          let last = last_ends o (0x2E ∷ h.after) (All-from_recursion (λ b. separates o b ≡ false) (0x2E ∷ h.after) (dot_plain o, h.plain)) before in
          record {
            before = last.before;
            start = last.start;
            joined = ap (components o) (split ∙ ap (λ z. before ++ z ∷ h.after) dot) ∙ last.parts ∙ ap (λ z. last.before ++ (last.start ++ 0x2E ∷ z) ∷ []) same;
            lacks = subst LacksDot same h.lacks;
          }

pub has_dot : (before key : List ℕ) → ¬ (LacksDot (before ++ 0x2E ∷ key))
has_dot [] key h = h.0 refl
has_dot (b ∷ before) key h = has_dot before key h.1

pub one_extension : (s t after key : List ℕ) → s ++ 0x2E ∷ after ≡ t ++ 0x2E ∷ key → LacksDot after → LacksDot key → after ≡ key
one_extension [] [] after key e h k = ap (drop 1) e
one_extension [] (y ∷ t) after key e h k = absurd (has_dot t key (subst LacksDot (ap (drop 1) e) h))
one_extension (x ∷ s) [] after key e h k = absurd (has_dot s after (subst LacksDot (sym (ap (drop 1) e)) k))
one_extension (x ∷ s) (y ∷ t) after key e h k = one_extension s t after key (ap (drop 1) e) h k
