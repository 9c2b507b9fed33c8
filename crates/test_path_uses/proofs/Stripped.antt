-- What has a rest after a base, and what starts with it.
use Rattle.std.proofs.Common.{◌≡◌, ◌↔◌, ℕ, Bool, true, false, List, [], ◌∷◌, ◌++◌, Option, Some, None, MatchOption, refl}
use Rattle.std.specs.Prelude.{IsTrue, is_some}
use mathlib.Core.Bool.{beq}
use Rattle.path_rules.specs.declared.rules.Style.{Style}
use Rattle.path_rules.specs.Component.{Item}
use Rattle.path_rules.specs.Compare.{AreAllAlike, StartsAlike, StartsWith}
use Rattle.path_rules.specs.Strip.{IsStripped}

starts_alike : (xs more ys : List Item) → AreAllAlike xs ys → StartsAlike (xs ++ more) ys
starts_alike [] more [] h = tt
starts_alike [] more (y ∷ ys) h = absurd h
starts_alike (x ∷ xs) more [] h = tt
starts_alike (x ∷ xs) more (y ∷ ys) h = (h.0, starts_alike xs more ys h.1)

starts : (w : Style) (path base rest : List ℕ) (more : List Item) → IsStripped w path base rest more → StartsWith w path base
starts w path base rest more h = record {
  items = h.items ++ more;
  base_items = h.base_items;
  are = h.whole;
  base_are = h.base_are;
  alike = starts_alike h.items more h.base_items h.alike;
}

pub strips : {X : Type 0} (view : X → List ℕ) (w : Style) (path base : List ℕ) (r : Option X) (b : Bool) → MatchOption r (¬ (StartsWith w path base)) (λ x. (more : List Item) × IsStripped w path base (view x) more)
    → (IsTrue b ↔ StartsWith w path base) → IsTrue (beq (is_some r) b)
strips view w path base None true h k = absurd (h (k.0 refl))
strips view w path base None false h k = refl
strips view w path base (Some x) true h k = refl
strips view w path base (Some x) false h k = let never : false ≡ true = k.1 (starts w path base (view x) h.0 h.1) in cc
