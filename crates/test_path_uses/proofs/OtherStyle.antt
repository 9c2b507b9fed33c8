-- How the path of another style is written, and which component is the first that it can't have.
use Rattle.std.proofs.Common.{◌≡◌, ◌≢◌, inl, inr, ℕ, ◌+◌, Bool, true, false, List, [], ◌∷◌, sym, ap, ◌∙◌, subst}
use Rattle.path_rules.specs.declared.rules.Style as whose
use Rattle.path_rules.specs.Component.{Item}
use Rattle.path_rules.specs.Components.{AreComponents}
use Rattle.path_building.specs.Written.{IsWritten}
use Rattle.path_building.specs.Restyled.{IsFirstUnlike, IsRestyled}
use Rattle.test_path_uses.proofs.Joins.{OneList}

same_index : (w : whose.Style) (first : Bool) (items : List Item) (one other : ℕ) → IsFirstUnlike w first items one → IsFirstUnlike w first items other → one ≡ other
same_index w first [] one other h k = absurd h
same_index w first (x ∷ xs) one other (inl h) (inl k) = h.1 ∙ sym k.1
same_index w first (x ∷ xs) one other (inl h) (inr k) = absurd (h.0 k.0)
same_index w first (x ∷ xs) one other (inr h) (inl k) = absurd (k.0 h.0)
same_index w first (x ∷ xs) one other (inr h) (inr k) = h.1.1.0 ∙ ap (λ n. n + 1) (same_index w false xs h.1.0 k.1.0 h.1.1.1 k.1.1.1) ∙ sym k.1.1.0

pub one_index : OneList → (from to : whose.Style) (path : List ℕ) (one other : ℕ) (items others : List Item) → AreComponents from path others → IsFirstUnlike to true others one → AreComponents from path items → IsFirstUnlike to true items other → one ≡ other
one_index list from to path one other items others others_are h are k = same_index to true items one other (subst (λ x. IsFirstUnlike to true x one) (list from path others items others_are are) h) k

pub written_anew : OneList → (from to : whose.Style) (path made : List ℕ) → IsRestyled from to path made → (items : List Item) → from ≢ to → AreComponents from path items → IsWritten to items made
written_anew list from to path made (inl h) items other are = absurd (other h.0)
written_anew list from to path made (inr h) items other are = subst (λ x. IsWritten to x made) (list from path h.1.1.0 items h.1.1.1.0 are) h.1.1.1.1.1
