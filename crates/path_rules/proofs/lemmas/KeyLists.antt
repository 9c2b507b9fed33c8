-- The keys of a path that was taken apart.
use Rattle.std.proofs.Common.{◌≡◌, ◌≢◌, ℕ, List, [], ◌∷◌, ◌++◌, Option, Some, None, refl, sym, ◌∙◌, subst, append-nil}
use Rattle.std.proofs.lemmas.List.{append_cancel_right}
use Rattle.std.specs.List.{AllByRecursion, slice_split}
use Rattle.std.specs.Option.{option_map}
use denote.Ref.{Bor}
use Rattle.path_rules.specs.declared.rules.Rules.{Rules}
use Rattle.path_rules.specs.declared.rules.Style as whose
use Rattle.path_rules.specs.declared.rules.Style.TheVariants as style
use Rattle.path_rules.specs.declared.prefix.Prefix as held
use Rattle.path_rules.specs.declared.head.Start.{Start}
use Rattle.path_rules.specs.declared.head.Start.TheVariants.{Root, Dot, Nothing}
use Rattle.path_rules.specs.declared.head.Head.{Head}
use Rattle.path_rules.specs.Separators.{separates}
use Rattle.path_rules.specs.Component.{Item, Prefix, RootDir, CurDir, ParentDir, Normal, components_in}
use Rattle.path_rules.specs.Components.{AreComponents}
use Rattle.path_rules.specs.Heads.{prefix_items, start_items, items_of}
use Rattle.path_rules.specs.HeadParts.{IsHead, IsPrefixedHead, bare_head, prefixed_head}
use Rattle.path_rules.specs.Prefix.{Kind, IsPrefixOf}
use Rattle.path_rules.specs.PrefixViews.{kind_of}
use Rattle.path_rules.specs.Compare.{IsNoPrefix}
use Rattle.path_rules.specs.Keys.{HasKeys, AreKeys, prefix_keys, kind_keys, item_keys}
use Rattle.path_rules.proofs.lemmas.Begins.{no_prefix_parts}
use Rattle.path_rules.proofs.lemmas.AfterPrefix.{some_of}
use Rattle.path_rules.specs.Parsed.{IsFound, kind_found}
use Rattle.path_rules.proofs.lemmas.Parsings.{is_found}
use Rattle.path_rules.proofs.lemmas.Keeps.{prefix_stays}
use Rattle.path_rules.proofs.lemmas.OneList.{one_prefix}

plain_keys : (xs : List Item) → AllByRecursion IsNoPrefix xs → AreKeys xs (item_keys xs)
plain_keys [] n = refl
plain_keys (Prefix s ∷ xs) n = absurd n.0
plain_keys (RootDir ∷ xs) n = refl
plain_keys (CurDir ∷ xs) n = refl
plain_keys (ParentDir ∷ xs) n = refl
plain_keys (Normal s ∷ xs) n = refl

pub below_plain : (r : Rules) (st : Start) (body : List ℕ) → AllByRecursion IsNoPrefix (start_items st ++ components_in r body)
below_plain r Root body = (tt, no_prefix_parts r (slice_split (separates r) body))
below_plain r Dot body = (tt, no_prefix_parts r (slice_split (separates r) body))
below_plain r Nothing body = no_prefix_parts r (slice_split (separates r) body)

module _ (w : whose.Style) (path : List ℕ) (r : Rules) (st : Start) (body : List ℕ) where
  bare_keys : (p : List ℕ) → p ≡ [] → AreComponents w path (prefix_items p ++ (start_items st ++ components_in r body)) → HasKeys w path (item_keys (start_items st ++ components_in r body))
  bare_keys p e a = record {
    items = start_items st ++ components_in r body;
    are = subst (λ x. AreComponents w path (prefix_items x ++ (start_items st ++ components_in r body))) e a;
    keyed = plain_keys (start_items st ++ components_in r body) (below_plain r st body);
  }

  prefixed_keys : (p : List ℕ) (kind : Kind) → p ≢ [] → IsPrefixOf p kind [] → AreComponents w path (prefix_items p ++ (start_items st ++ components_in r body))
      → HasKeys w path (kind_keys kind ++ item_keys (start_items st ++ components_in r body))
  prefixed_keys [] kind n is a = absurd (n refl)
  prefixed_keys (b ∷ s) kind n is a = record { items = Prefix (b ∷ s) ∷ (start_items st ++ components_in r body); are = a; keyed = (kind, ([], (is, refl))) }

-- the prefix of a path with this prefix
prefix_alone : (path : List ℕ) (head : Head) → IsPrefixedHead path head → (kind : Kind) (rest : List ℕ) → IsPrefixOf path kind rest → IsPrefixOf head.prefix.now kind []
prefix_alone path head h kind rest is =
    let kept = prefix_stays path h.kind h.rest [] h.rest refl h.is in
    let same : kept.before ++ [] ≡ head.prefix.now = append-nil kept.before ∙ append_cancel_right kept.before head.prefix.now h.rest (sym kept.joined ∙ h.joined) in
    subst (λ x. IsPrefixOf head.prefix.now x []) ((one_prefix path h.kind kind h.rest rest h.is is).0) (subst (λ x. IsPrefixOf x h.kind []) same kept.kept)

found_keys : (w : whose.Style) (path : List ℕ) (head : Head) (found : Option (held.Prefix (Bor (List ℕ)))) (rest : List ℕ) → IsHead w path head → AreComponents w path (items_of head) → IsFound w path (kind_found found) rest
    → HasKeys w path (prefix_keys (option_map kind_of found) ++ item_keys (start_items head.start ++ components_in head.rules head.body.now))
found_keys style.Unix path head None rest h a f = bare_keys style.Unix path head.rules head.start head.body.now head.prefix.now h.prefix a
found_keys style.Unix path head (Some p) rest h a f = absurd f
found_keys style.Windows path head None rest (bare_head h) a f = bare_keys style.Windows path head.rules head.start head.body.now head.prefix.now h.prefix a
found_keys style.Windows path head (Some p) rest (bare_head h) a f = absurd (h.none (kind_of p) rest f)
found_keys style.Windows path head None rest (prefixed_head h) a f = absurd (f.0 h.kind h.rest h.is)
found_keys style.Windows path head (Some p) rest (prefixed_head h) a f =
    prefixed_keys style.Windows path head.rules head.start head.body.now head.prefix.now (kind_of p) (some_of path head h) (prefix_alone path head h (kind_of p) rest f) a

pub keys_found : (w : whose.Style) (path : List ℕ) (head : Head) (found : Option (held.Prefix (Bor (List ℕ)))) (rest none : List ℕ) → none ≡ [] → IsHead w path head → AreComponents w path (items_of head) → ∥ IsFound w path (kind_found found) rest ∥₁
    → HasKeys w path (prefix_keys (option_map kind_of found) ++ item_keys (prefix_items none ++ (start_items head.start ++ components_in head.rules head.body.now)))
keys_found w path head found rest none e h a f =
    subst (λ x. HasKeys w path (prefix_keys (option_map kind_of found) ++ item_keys (prefix_items x ++ (start_items head.start ++ components_in head.rules head.body.now)))) (sym e) (found_keys w path head found rest h a (is_found w path (kind_found found) rest f))
