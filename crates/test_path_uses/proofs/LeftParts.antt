-- What is left of a list after its first item.
use Rattle.std.proofs.Common.{◌≡◌, ℕ, suc, List, [], ◌∷◌, ◌++◌, length, Option, Some, None, MatchOption, refl, sym, ap, ◌∙◌, arith}
use Rattle.std.proofs.lemmas.List.{append_cancel_left}
use Rattle.path_rules.specs.declared.rules.Rules.TheVariants as rules
use Rattle.path_rules.specs.declared.rules.Style.TheVariants as style
use Rattle.path_rules.specs.Component.{Item, components_in}
use Rattle.path_rules.specs.Components.{AreUnixComponents}
use Rattle.path_rules.specs.Left.{HasLeft, nothing, from_start, prefix_alone, after_prefix, in_body, IsLeft, one_more}

pub first_taken : {X : Type 0} (view : X → Item) (r : Option X) (xs ys : List Item) (first : Item) (others : List Item)
    → MatchOption r ((xs ≡ []) × (ys ≡ [])) (λ x. xs ≡ view x ∷ ys) → xs ≡ first ∷ others → ys ≡ others
first_taken view None xs ys first others h e = let never : [] ≡ first ∷ others = sym h.0 ∙ e in cc
first_taken view (Some x) xs ys first others h e = let both : view x ∷ ys ≡ first ∷ others = sym h ∙ e in cc

-- one component was taken
pub one_taken : {X : Type 0} (view : X → Item) (r : Option X) (xs ys : List Item) (first : Item) (others : List Item) → MatchOption r ((xs ≡ []) × (ys ≡ [])) (λ x. xs ≡ view x ∷ ys) → xs ≡ first ∷ others → one_more r 0 ≡ 1
one_taken view None xs ys first others h e = let never : [] ≡ first ∷ others = sym h.0 ∙ e in cc
one_taken view (Some x) xs ys first others h e = refl

one_of : (front : List Item) (first : Item) (others more : List Item) → length front ≡ 1 → first ∷ others ≡ front ++ more → others ≡ more
one_of [] first others more l e = absurd (omega (arith, l))
one_of (x ∷ []) first others more l e = cc
one_of (x ∷ y ∷ front) first others more l e = absurd (omega (arith, l))

nothing_more : (xs ys : List Item) → xs ≡ xs ++ ys → ys ≡ []
nothing_more [] ys e = sym e
nothing_more (x ∷ xs) ys e = let more : xs ≡ xs ++ ys = cc in nothing_more xs ys more

-- what is left after one component ends with the last one of the path
pub ends_last : (path part : List ℕ) (first second : Item) (others : List Item) → AreUnixComponents path (first ∷ second ∷ others) → ((one other : List Item) → AreUnixComponents path one → AreUnixComponents path other → one ≡ other) → IsLeft style.Unix path 1 (second ∷ others) part
    → (before : List ℕ) × ((after : List ℕ) × ((path ≡ (before ++ part) ++ after) × (components_in rules.Slash after ≡ [])))
ends_last path part first second others are one l = (l.before, (l.after, (l.joined, cases l.has)))
  where
    behind_none : l.behind ≡ []
    behind_none = nothing_more (second ∷ others) l.behind (one_of l.front first (second ∷ others) ((second ∷ others) ++ l.behind) l.count (one (first ∷ second ∷ others) (l.front ++ ((second ∷ others) ++ l.behind)) are l.whole))

    cases : HasLeft style.Unix path l.before part l.after l.front (second ∷ others) l.behind → components_in rules.Slash l.after ≡ []
    cases (nothing n _) = let never : second ∷ others ≡ [] = n in cc
    cases (from_start _ f _ _ _) = let never = ap length f in absurd (omega (arith, l.count, never))
    cases (prefix_alone _ _ p _ _) = absurd p
    cases (after_prefix _ p _ _ _ _ _ _) = absurd p
    cases (in_body r _ _ has _ _ behind _ _) = ap (λ q. components_in q l.after) (sym has.rules) ∙ behind ∙ behind_none
