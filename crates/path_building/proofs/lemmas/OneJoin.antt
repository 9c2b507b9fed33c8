-- What a path joined to a base is: one path.
use Rattle.std.proofs.Common.{◌≡◌, ◌≢◌, ◌⊎◌, inl, inr, ℕ, List, [], ◌++◌, reverse, sym, ap, ◌∙◌, subst}
use Rattle.std.proofs.lemmas.List.{append_cancel_right, reverse-reverse}
use Rattle.path_rules.specs.declared.rules.Style as whose
use Rattle.path_rules.specs.declared.rules.Style.TheVariants as style
use Rattle.path_rules.specs.StyleRules.{rules_of_style}
use Rattle.path_rules.specs.Prefix.{IsPrefixed, IsRawPrefix}
use Rattle.path_rules.specs.Root.{BeginsWithSeparator}
use Rattle.path_rules.proofs.lemmas.OneList.{one_prefix, one_components}
use Rattle.path_rules.specs.Component.{Item}
use Rattle.path_building.specs.Resolved.{ResolvesTo, below_root, AreResolved, IsResolved}
use Rattle.path_building.specs.Written.{written}
use Rattle.path_building.specs.Join.{IsJoin, IsVerbatimPath, IsBetween, replacing, resolving, at_root, after}
use Rattle.path_building.proofs.lemmas.Resolved.{one_resolved}

prefixed : (w : whose.Style) (base path joined : List ℕ) → IsJoin w base path joined → IsPrefixed w path → joined ≡ path
prefixed w base path joined (replacing p e) h = e
prefixed w base path joined (resolving n v some r) h = absurd (n h)
prefixed w base path joined (at_root n v j) h = absurd (n h)
prefixed w base path joined (after n o j) h = absurd (n h)

raw_same : (w : whose.Style) (path raw other : List ℕ) → IsRawPrefix w path raw → IsRawPrefix w path other → raw ≡ other
raw_same style.Unix path raw other h k = h ∙ sym k
raw_same style.Windows path raw other (inl h) (inl k) =
    append_cancel_right raw other h.1.0 (sym h.1.1.1 ∙ k.1.1.1 ∙ ap (λ x. other ++ x) (sym (one_prefix path h.0 k.0 h.1.0 k.1.0 h.1.1.0 k.1.1.0).1))
raw_same style.Windows path raw other (inl h) (inr k) = absurd (k.0 h.0 h.1.0 h.1.1.0)
raw_same style.Windows path raw other (inr h) (inl k) = absurd (h.0 k.0 k.1.0 k.1.1.0)
raw_same style.Windows path raw other (inr h) (inr k) = h.1 ∙ sym k.1

joined_at_root : (w : whose.Style) (base path joined raw : List ℕ) → IsJoin w base path joined → ¬ (IsPrefixed w path) → ¬ (IsVerbatimPath w base)
    → BeginsWithSeparator (rules_of_style w) path → IsRawPrefix w base raw → joined ≡ raw ++ path
joined_at_root w base path joined raw (replacing p e) n v root h = absurd (n p)
joined_at_root w base path joined raw (resolving m u some r) n v root h = absurd (v u)
joined_at_root w base path joined raw (at_root m u j) n v root h = j.is ∙ ap (λ x. x ++ path) (raw_same w base j.raw raw j.prefix h)
joined_at_root w base path joined raw (after m o j) n v root h = absurd (j.relative root)

pub between_same : (w : whose.Style) (base one other : List ℕ) → IsBetween w base one → IsBetween w base other → one ≡ other
between_same w base one other (inl h) (inl k) = h.1 ∙ sym k.1
between_same w base one other (inl h) (inr k) = absurd (k.0 h.0)
between_same w base one other (inr h) (inl k) = absurd (h.0 k.0)
between_same w base one other (inr h) (inr k) = h.1 ∙ sym k.1

pub left_same : (base path : List ℕ) (one other : List Item) → AreResolved base path one → AreResolved base path other → one ≡ other
left_same base path one other f g =
    let bases = one_components style.Windows base f.base_items g.base_items f.base_are g.base_are in
    let items = one_components style.Windows path f.items g.items f.are g.are in
    let form : ResolvesTo g.base_items (reverse g.items) (reverse one) = subst (λ z. ResolvesTo g.base_items (reverse z) (reverse one)) items (subst (λ z. ResolvesTo z (reverse f.items) (reverse one)) bases f.form) in
    sym (reverse-reverse one) ∙ ap reverse (one_resolved form g.form) ∙ reverse-reverse other

resolved_same : (base path one other : List ℕ) → IsResolved base path one → IsResolved base path other → one ≡ other
resolved_same base path one other h k = h.is ∙ ap (λ z. written 0x5C (below_root z)) (left_same base path h.left k.left h.resolved k.resolved) ∙ sym k.is

neither : (path : List ℕ) {V : Type 0} → path ≢ [] → V → (path ≡ []) ⊎ (¬ V) → ⊥
neither path some v (inl e) = some e
neither path some v (inr n) = n v

pub one_join : (w : whose.Style) (base path one other : List ℕ) → IsJoin w base path one → IsJoin w base path other → one ≡ other
one_join w base path one other (replacing p e) k = e ∙ sym (prefixed w base path other k p)
one_join w base path one other (resolving n v some r) (replacing p e) = absurd (n p)
one_join w base path one other (resolving n v some r) (resolving m u other_some s) = resolved_same base path one other r s
one_join w base path one other (resolving n v some r) (at_root m u k) = absurd (u v)
one_join w base path one other (resolving n v some r) (after m o k) = absurd (neither path some v o)
one_join w base path one other (at_root n v j) k = j.is ∙ sym (joined_at_root w base path other j.raw k n v j.root j.prefix)
one_join w base path one other (after n o j) (replacing p e) = absurd (n p)
one_join w base path one other (after n o j) (resolving m v some r) = absurd (neither path some v o)
one_join w base path one other (after n o j) (at_root m u k) = absurd (j.relative k.root)
one_join w base path one other (after n o j) (after m p k) = j.is ∙ ap (λ x. base ++ (x ++ path)) (between_same w base j.between k.between j.written k.written) ∙ sym k.is
