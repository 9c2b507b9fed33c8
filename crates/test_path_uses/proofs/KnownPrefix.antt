-- What a path's prefix is, where it is known, and a path without `\\?\`.
use Rattle.std.proofs.Common.{◌≡◌, inl, inr, ℕ, true, false, List, ◌∷◌, Option, Some, None, MatchOption, refl, sym, ap, ◌∙◌}
use Rattle.std.specs.Option.{option_map}
use Rattle.path_rules.specs.declared.rules.Style as whose
use Rattle.path_rules.specs.declared.rules.Style.TheVariants as style
use Rattle.path_rules.specs.Prefix.{Kind, IsPrefixOf, begins_verbatim}
use Rattle.path_rules.specs.Simplified.{IsSimplifiable, IsWindowsSimplified}
use Rattle.os_path.specs.Prefixes.{HasPrefix, HasNoPrefix}

pub known : {X : Type 0} (view : X → Kind) (w : whose.Style) (s : List ℕ) → ((a b : Kind) (x y : List ℕ) → IsPrefixOf s a x → IsPrefixOf s b y → (a ≡ b) × (x ≡ y))
    → (r : Option X) → MatchOption r (HasNoPrefix w s) (λ p. HasPrefix w s (view p)) → (k : Kind) → HasPrefix w s k → option_map view r ≡ Some k
known view style.Unix s one r h k has = absurd has
known view style.Windows s one None h k has = absurd (h k has.0 has.1)
known view style.Windows s one (Some x) h k has = ap Some (one (view x) k h.0 has.0 h.1 has.1).0

pub none : {X : Type 0} (view : X → Kind) (w : whose.Style) (s : List ℕ) (r : Option X) → MatchOption r (HasNoPrefix w s) (λ p. HasPrefix w s (view p)) → HasNoPrefix w s → r ≡ None
none view w s None h lacks = refl
none view style.Unix s (Some x) h lacks = absurd h
none view style.Windows s (Some x) h lacks = absurd (lacks (view x) h.0 h.1)

module _ (path t : List ℕ) where
  pub taken_off : IsWindowsSimplified path t → (other : List ℕ) → IsSimplifiable path other → t ≡ other
  taken_off (inl h) other k = let both : 0x5C ∷ 0x5C ∷ 0x3F ∷ 0x5C ∷ t ≡ 0x5C ∷ 0x5C ∷ 0x3F ∷ 0x5C ∷ other = sym h.joined ∙ k.joined in cc
  taken_off (inr h) other k = absurd (h.0 other k)

  pub kept : IsWindowsSimplified path t → ((other : List ℕ) → ¬ (IsSimplifiable path other)) → t ≡ path
  kept (inl h) none = absurd (none t h)
  kept (inr h) none = h.1

  pub kept_plain : IsWindowsSimplified path t → begins_verbatim path ≡ false → t ≡ path
  kept_plain (inl h) e = let never : true ≡ false = sym (ap begins_verbatim h.joined) ∙ e in cc
  kept_plain (inr h) e = h.1
