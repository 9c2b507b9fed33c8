-- The root of a path's parent.
use Rattle.std.proofs.Common.{◌≡◌, ◌⊎◌, inl, inr, ℕ, true, false, if◌then◌else◌, List, [], ◌∷◌, ◌++◌, Option, Some, None, MatchOption, refl, sym, ap, ◌∙◌, subst, append_assoc}
use Rattle.std.specs.Prelude.{IfSome}
use Rattle.std.proofs.lemmas.List.{append_cancel_right}
use Rattle.path_rules.specs.declared.rules.Rules.TheVariants as rules
use Rattle.path_rules.specs.declared.rules.Style.TheVariants as style
use Rattle.path_rules.specs.Separators.{separates}
use Rattle.path_rules.specs.Body.{HasBody, HasBodyAfter}
use Rattle.path_rules.specs.Component.{Item, Prefix, CurDir, components_in}
use Rattle.path_rules.specs.Components.{AreComponents, prefixed, bare, root_of, after_root}
use Rattle.path_rules.specs.Heads.{start_items}
use Rattle.path_rules.specs.Prefix.{Kind, IsPrefixOf, rules_of}
use Rattle.path_rules.specs.Parent.{IsParent, HasNoParent}

module _ (path prefix body : List ℕ) (separator : ℕ) (kind : Kind) (joined : path ≡ prefix ++ separator ∷ body) (is : IsPrefixOf path kind (separator ∷ body)) (root : separates rules.Either separator ≡ true)
    (one : (a b : Kind) (x y : List ℕ) → IsPrefixOf path a x → IsPrefixOf path b y → (a ≡ b) × (x ≡ y)) where
  -- what follows the root
  body_is : (rest : List ℕ) → separator ∷ body ≡ rest → after_root rest ≡ body
  body_is rest e = ap after_root (sym e) ∙ ap (λ x. if x then body else separator ∷ body) root

  -- where the parent ends in the path's body, it has the root
  rooted : (parent after : List ℕ) → path ≡ parent ++ after → HasBodyAfter style.Windows path parent after → (left : List ℕ) × (parent ≡ prefix ++ separator ∷ left)
  rooted parent after goes_on w = by w.has
    where
      by : HasBody style.Windows path w.rules w.body → (left : List ℕ) × (parent ≡ prefix ++ separator ∷ left)
      by (inl h) =
          let b : body ≡ w.left ++ after = sym (body_is h.rest (one kind h.kind (separator ∷ body) h.rest is h.prefix).1) ∙ sym h.is ∙ w.joined in
          (w.left, append_cancel_right parent (prefix ++ separator ∷ w.left) after (sym goes_on ∙ joined ∙ ap (λ x. prefix ++ separator ∷ x) b ∙ sym (append_assoc prefix (separator ∷ w.left) after)))
      by (inr h) = absurd (h.0 kind (separator ∷ body) is)

  -- a path with a prefix isn't `.`
  no_dot : AreComponents style.Windows path (CurDir ∷ []) → ⊥
  no_dot (prefixed h) = let never : CurDir ∷ [] ≡ Prefix h.raw ∷ (start_items (root_of h.kind h.rest) ++ components_in (rules_of h.kind) (after_root h.rest)) = h.are in cc
  no_dot (bare h) = h.none kind (separator ∷ body) is

  parent_rooted : (parent : List ℕ) → IsParent style.Windows path parent → (left : List ℕ) × (parent ≡ prefix ++ separator ∷ left)
  parent_rooted parent h = by h.within
    where
      by : HasBodyAfter style.Windows path parent h.after ⊎ ((h.items ≡ []) × (h.last ≡ CurDir)) → (left : List ℕ) × (parent ≡ prefix ++ separator ∷ left)
      by (inl w) = rooted parent h.after h.joined w
      by (inr dot) = absurd (no_dot (subst (λ x. AreComponents style.Windows path (x ∷ [])) dot.1 (subst (λ xs. AreComponents style.Windows path (xs ++ h.last ∷ [])) dot.0 h.whole)))

pub with_root : {X : Type 0} (view : X → List ℕ) (path : List ℕ) → ((a b : Kind) (x y : List ℕ) → IsPrefixOf path a x → IsPrefixOf path b y → (a ≡ b) × (x ≡ y)) → (r : Option X)
    → MatchOption r (HasNoParent style.Windows path) (λ p. IsParent style.Windows path (view p))
    → IfSome r (λ p. (prefix : List ℕ) (separator : ℕ) (body : List ℕ) (kind : Kind) → path ≡ prefix ++ separator ∷ body → IsPrefixOf path kind (separator ∷ body) → separates rules.Either separator ≡ true → (left : List ℕ) × (view p ≡ prefix ++ separator ∷ left))
with_root view path one None h = tt
with_root view path one (Some x) h = λ prefix separator body kind joined is k. parent_rooted path prefix body separator kind joined is k one (view x) h
