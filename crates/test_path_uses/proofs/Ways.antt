-- Ways to and from absolute paths.
use Rattle.std.proofs.Common.{◌≡◌, inl, inr, ℕ, List, Option, Some, None, refl}
use Rattle.std.specs.Prelude.{IfSome}
use Rattle.std.specs.Option.{option_map}
use Rattle.path_rules.specs.declared.rules.Style.{Style}
use Rattle.path_rules.specs.Root.{IsAbsolute}
use Rattle.path_building.specs.Relative.{IsCandidate, IsRelativeFrom}

is_path : (w : Style) (path base r : List ℕ) → IsCandidate w path base r → IsAbsolute w path → ¬ (IsAbsolute w base) → r ≡ path
is_path w path base r (inl k) a n = k.1.1
is_path w path base r (inr k) a n = absurd (n (k.left.both.0 a))

never : (w : Style) (path base r : List ℕ) → IsCandidate w path base r → ¬ (IsAbsolute w path) → IsAbsolute w base → ⊥
never w path base r (inl k) n b = n k.0
never w path base r (inr k) n b = n (k.left.both.1 b)

module _ {X : Type 0} (view : X → List ℕ) (w : Style) (path base : List ℕ) where
  pub itself : (way : Option X) → IsRelativeFrom w path base (option_map view way) → IsAbsolute w path → ¬ (IsAbsolute w base) → IfSome way (λ x. view x ≡ path)
  itself None h a n = tt
  itself (Some x) h a n = is_path w path base (view x) h.0 a n

  pub no_way : (way : Option X) → IsRelativeFrom w path base (option_map view way) → ¬ (IsAbsolute w path) → IsAbsolute w base → way ≡ None
  no_way None h n b = refl
  no_way (Some x) h n b = absurd (never w path base (view x) h.0 n b)
