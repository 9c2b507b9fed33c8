-- The first component of a path as a string.
use Rattle.std.proofs.Common.{◌≡◌, ℕ, List, [], ◌∷◌, Option, Some, None, MatchOption, refl, sym, ap, ◌∙◌}
use Rattle.std.specs.Prelude.{map}
use Rattle.std.specs.Option.{option_map}
use Rattle.path_rules.specs.Component.{Item}

-- a string that was given first
pub first_given : {X : Type 0} (view : X → List ℕ) (string : Item → List ℕ) (r : Option X) (xs ys : List (List ℕ)) (items : List Item) (first : Item) (others : List Item)
    → MatchOption r ((xs ≡ []) × (ys ≡ [])) (λ x. xs ≡ view x ∷ ys) → xs ≡ map string items → items ≡ first ∷ others → option_map view r ≡ Some (string first)
first_given view string None xs ys items first others h e i = let never : [] ≡ string first ∷ map string others = sym h.0 ∙ e ∙ ap (map string) i in cc
first_given view string (Some x) xs ys items first others h e i =
    let both : view x ∷ ys ≡ string first ∷ map string others = sym h ∙ e ∙ ap (map string) i in
    let same : view x ≡ string first = cc in ap Some same
