-- What the last component of a path ends with.
use Rattle.std.proofs.Common.{◌≡◌, nat_eq, ℕ, false, List, [], ◌++◌, ◌∷◌, refl, sym, ap, ◌∙◌, subst, append_assoc}
use Rattle.std.specs.List.{join_with_byte, AllByRecursion}
use Rattle.std.proofs.lemmas.List.Elements.{recursion_from_All, All-from_recursion}
use Rattle.std.proofs.lemmas.List.Splits.{join_with_byte-slice_split}
use Rattle.os_ignore.specs.Components.{IsPlain, IsCut, IsLastComponent}
use Rattle.os_ignore.proofs.lemmas.Cuts.{not_plain}

-- a byte more that doesn't separate
pub plain_more : (separator b : ℕ) (s : List ℕ) → nat_eq b separator ≡ false → IsPlain separator s → IsPlain separator (b ∷ s)
plain_more c b s e h = All-from_recursion (λ x. nat_eq x c ≡ false) (b ∷ s) (e, recursion_from_All (λ x. nat_eq x c ≡ false) s h)

-- what comes after a byte of a list without separators is one
pub plain_after : (separator b : ℕ) (s front back : List ℕ) → IsCut b s front back → IsPlain separator s → IsPlain separator back
plain_after c b s front back e h = All-from_recursion (λ x. nat_eq x c ≡ false) back (go front (recursion_from_All (λ x. nat_eq x c ≡ false) (front ++ b ∷ back) (subst (IsPlain c) e h)))
  where
    go : (front : List ℕ) → AllByRecursion (λ x. nat_eq x c ≡ false) (front ++ b ∷ back) → AllByRecursion (λ x. nat_eq x c ≡ false) back
    go [] k = k.1
    go (x ∷ front) k = go front k.1

-- what ends without a separator ends what comes after one
ends_after : (separator : ℕ) (before suffix front back : List ℕ) → before ++ suffix ≡ front ++ separator ∷ back → IsPlain separator suffix → (left : List ℕ) × (back ≡ left ++ suffix)
ends_after c [] suffix front back e h = absurd (not_plain c front back (subst (IsPlain c) e h))
ends_after c (x ∷ before) suffix [] back e h = let f : before ++ suffix ≡ back = cc in (before, sym f)
ends_after c (x ∷ before) suffix (y ∷ front) back e h = let f : before ++ suffix ≡ front ++ c ∷ back = cc in ends_after c before suffix front back f h

-- joined lists are the last one, or end with a separator and that
joined_before : (c : ℕ) (x : List ℕ) (front : List (List ℕ)) (last : List ℕ) → (before : List ℕ) × (join_with_byte c (x ∷ (front ++ last ∷ [])) ≡ before ++ c ∷ last)
joined_before c x [] last = (x, refl)
joined_before c x (y ∷ front) last =
    let h = joined_before c y front last in
    (x ++ c ∷ h.0, ap (λ z. x ++ c ∷ z) h.1 ∙ sym (append_assoc x (c ∷ h.0) (c ∷ last)))

-- the last component ends with what the path ends with, up to a slash
pub last_ends : (path name before suffix : List ℕ) → IsLastComponent path name → path ≡ before ++ suffix → IsPlain 0x2F suffix → (left : List ℕ) × (name ≡ left ++ suffix)
last_ends path name before suffix l e h = go l.0 (sym (join_with_byte-slice_split 0x2F path) ∙ ap (join_with_byte 0x2F) l.1)
  where
    go : (front : List (List ℕ)) → path ≡ join_with_byte 0x2F (front ++ name ∷ []) → (left : List ℕ) × (name ≡ left ++ suffix)
    go [] f = (before, sym f ∙ e)
    go (x ∷ front) f = let k = joined_before 0x2F x front name in ends_after 0x2F before suffix k.0 name (sym e ∙ f ∙ k.1) h
