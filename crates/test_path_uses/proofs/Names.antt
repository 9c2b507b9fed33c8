-- Names that are reserved by their bytes.
use Rattle.std.proofs.Common.{◌≡◌, inl, inr, ℕ, Bool, true, false, List, [], ◌∷◌, ◌++◌, refl, sym, ap, ◌∙◌}
use Rattle.std.specs.Prelude.{◌||◌}
use Rattle.std.specs.List.{list_any}
use Rattle.std.proofs.lemmas.List.{same_from_push}
use Rattle.path_rules.specs.Reserved.{EndsReserved, IsReserved, HasDeviceBase, is_reserved_byte}

pub by_space : (name before : List ℕ) → name ≡ before ++ 0x20 ∷ [] → IsReserved name
by_space name before e = inl (record {
  before = before;
  last = 0x20;
  joined = e;
  is = refl;
  not_dot = λ d. let never : 0x20 ≡ 0x2E = (same_from_push before [] 0x20 0x2E (sym e ∙ d)).1 in cc;
  not_dot_dot = λ d. let never : 0x20 ≡ 0x2E = (same_from_push before (0x2E ∷ []) 0x20 0x2E (sym e ∙ d)).1 in cc;
})

or_true : (b : Bool) → (b || true) ≡ true
or_true true = refl
or_true false = refl

has : (p : ℕ → Bool) (before after : List ℕ) (b : ℕ) → p b ≡ true → list_any p (before ++ b ∷ after) ≡ true
has p [] after b h = ap (λ x. x || list_any p after) h
has p (x ∷ before) after b h = ap (λ y. p x || y) (has p before after b h) ∙ or_true (p x)

pub by_colon : (name before after : List ℕ) → name ≡ before ++ 0x3A ∷ after → IsReserved name
by_colon name before after e = inr (inl (ap (list_any is_reserved_byte) e ∙ has is_reserved_byte before after 0x3A refl))

pub as_device : (name : List ℕ) → IsReserved name → ¬ (EndsReserved name) → list_any is_reserved_byte name ≡ false → HasDeviceBase name
as_device name (inl h) n b = absurd (n h)
as_device name (inr (inl h)) n b = let never : true ≡ false = sym h ∙ b in cc
as_device name (inr (inr h)) n b = h
