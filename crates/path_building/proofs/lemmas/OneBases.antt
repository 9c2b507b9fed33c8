-- Paths have one common base and one reason why they have none, and a path with another last name or stem is one.
use Rattle.std.proofs.Common.{◌≡◌, ◌≤◌, ◌+◌, inl, inr, ℕ, List, [], ◌∷◌, ◌++◌, length, refl, sym, ap, ◌∙◌, subst, append-nil, length-append, arith}
use Rattle.std.proofs.lemmas.List.{same_from_push, append_cancel_left, append_cancel_right}
use Rattle.std.specs.List.{AllByRecursion}
use Rattle.path_rules.specs.declared.rules.Rules.TheVariants as rules
use Rattle.path_rules.specs.declared.rules.Style.{Style}
use Rattle.path_rules.specs.declared.rules.Style.TheVariants as style
use Rattle.path_rules.specs.Component.{Item, Normal}
use Rattle.path_rules.specs.Components.{AreComponents, prefixed, bare, root_of, after_root}
use Rattle.path_rules.specs.Compare.{AreAlikePrefixes, StartsAlike, StartsWith, IsNoPrefix}
use Rattle.path_rules.specs.Body.{IsEndTrimmed}
use Rattle.path_rules.specs.Parent.{IsParent, HasFileName, HasNoFileName}
use Rattle.path_rules.specs.Name.{IsStem}
use Rattle.path_rules.specs.Prefix.{Kind, IsPrefixOf, rules_of}
use Rattle.path_rules.proofs.lemmas.Alike.{starts_from, alike_itself}
use Rattle.path_rules.proofs.lemmas.Begins.{no_prefix_items}
use Rattle.path_rules.proofs.lemmas.Dots.{one_extension}
use Rattle.path_rules.proofs.lemmas.Keeps.{prefix_stays}
use Rattle.path_rules.proofs.lemmas.KeyLists.{below_plain}
use Rattle.path_rules.proofs.lemmas.OneList.{one_components}
use Rattle.path_rules.proofs.lemmas.OneParent.{one_trimmed, one_parent}
use Rattle.path_building.specs.CommonBase.{BeginAlike, IsFront, whole, above, IsBaseOf, IsCommonBase, IsApart, IsCommonBaseFault}
use Rattle.path_building.specs.FileName.{IsNameBase, IsNamed}
use Rattle.path_building.specs.Join.{IsJoin}
use Rattle.path_building.specs.FileStem.{IsNamedByStem, IsStemSet}
use Rattle.path_building.specs.declared.common_bases.CommonBaseError.{CommonBaseError}
use Rattle.path_building.specs.declared.common_bases.CommonBaseError.TheVariants as error
use Rattle.path_building.proofs.lemmas.CommonBases.{front_items, starts_less}
use Rattle.path_building.proofs.lemmas.OneJoin.{one_join}

-- a front of a path above another front has fewer components than the path
fewer : (w : Style) (path s t lower : List ℕ) → IsEndTrimmed w path s → IsFront w path lower → IsParent w lower t → (xs ys : List Item) → AreComponents w s xs → AreComponents w t ys → length xs ≡ length ys → ⊥
fewer w path s t lower h f p xs ys a b e =
    let i = front_items w path lower f in
    let n = ap length (one_components w s xs h.items a h.are) in
    let m = ap length (one_components w t ys p.items b p.are) in
    let all = ap length (one_components w path h.items (i.0 ++ i.1.0) h.whole i.1.1.1) in
    let one = ap length (one_components w lower i.0 (p.items ++ p.last ∷ []) i.1.1.0 p.whole) in
    absurd (omega (arith, n, m, e, all, one, length-append i.0 i.1.0, length-append p.items (p.last ∷ [])))

-- fronts of one path with as many components are one
as_many : (w : Style) (path s t : List ℕ) → IsFront w path s → IsFront w path t → (xs ys : List Item) → AreComponents w s xs → AreComponents w t ys → length xs ≡ length ys → s ≡ t
as_many w path _ _ (whole s h) (whole t k) xs ys a b e = one_trimmed w path s t h k
as_many w path _ _ (whole s h) (above t lower f p) xs ys a b e = absurd (fewer w path s t lower h f p xs ys a b e)
as_many w path _ _ (above s lower f p) (whole t k) xs ys a b e = absurd (fewer w path t s lower k f p ys xs b a (sym e))
as_many w path _ _ (above s lower f p) (above t under g q) xs ys a b e =
    let n = ap length (one_components w s xs p.items a p.are) in
    let m = ap length (one_components w t ys q.items b q.are) in
    let long : length (p.items ++ p.last ∷ []) ≡ length (q.items ++ q.last ∷ []) = omega (arith, n, m, e, length-append p.items (p.last ∷ []), length-append q.items (q.last ∷ [])) in
    let same = as_many w path lower under f g (p.items ++ p.last ∷ []) (q.items ++ q.last ∷ []) p.whole q.whole long in
    one_parent w under s t (subst (λ z. IsParent w z s) same p) q

-- a path starts with itself
alike_prefix : (s raw rest : List ℕ) (kind : Kind) → s ≡ raw ++ rest → IsPrefixOf s kind rest → AreAlikePrefixes raw raw
alike_prefix s raw rest kind e h =
    let p = prefix_stays s kind rest [] rest refl h in
    let same : p.before ++ [] ≡ raw = append-nil p.before ∙ append_cancel_right p.before raw rest (sym p.joined ∙ e) in
    let alone : IsPrefixOf raw kind [] = subst (λ z. IsPrefixOf z kind []) same p.kept in
    record { kind = kind; after_first = []; after_second = []; first = alone; second = alone }

alike_all : (xs : List Item) → AllByRecursion IsNoPrefix xs → StartsAlike xs xs
alike_all [] n = tt
alike_all (x ∷ xs) n = (alike_itself x n.0, alike_all xs n.1)

alike_items : (w : Style) (s : List ℕ) (items : List Item) → AreComponents w s items → StartsAlike items items
alike_items style.Unix s items a = subst (λ z. StartsAlike z z) (sym a) (alike_all _ (no_prefix_items rules.Slash s))
alike_items style.Windows s items (prefixed a) =
    subst (λ z. StartsAlike z z) (sym a.are) (alike_prefix s a.raw a.rest a.kind a.joined a.prefix, alike_all _ (below_plain (rules_of a.kind) (root_of a.kind a.rest) (after_root a.rest)))
alike_items style.Windows s items (bare a) = subst (λ z. StartsAlike z z) (sym a.are) (alike_all _ (no_prefix_items rules.Either s))

starts_with_front : (w : Style) (path s : List ℕ) → IsFront w path s → StartsWith w path s
starts_with_front w path s f =
    let i = front_items w path s f in
    record {
      items = i.0 ++ i.1.0;
      base_items = i.0;
      are = i.1.1.1;
      base_are = i.1.1.0;
      alike = starts_less (i.0 ++ i.1.0) i.0 i.1.0 (alike_items w path (i.0 ++ i.1.0) i.1.1.1);
    }

no_fewer : (xs ys : List Item) → StartsAlike xs ys → length ys ≤ length xs
no_fewer xs [] h = omega arith
no_fewer [] (y ∷ ys) h = absurd h
no_fewer (x ∷ xs) (y ∷ ys) h = let l = no_fewer xs ys h.1 in omega (arith, l)

base_same : (w : Style) (first : List ℕ) (others : List (List ℕ)) (s t : List ℕ) → IsBaseOf w first others s → IsBaseOf w first others t → s ≡ t
base_same w first others s t h k =
    let i = front_items w first s h.front in
    let j = front_items w first t k.front in
    let one = h.longest t (starts_with_front w first t k.front) k.common in
    let other = k.longest s (starts_with_front w first s h.front) h.common in
    let less = no_fewer i.0 j.0 ((starts_from w s t i.0 j.0 i.1.1.0 j.1.1.0).0 one) in
    let more = no_fewer j.0 i.0 ((starts_from w t s j.0 i.0 j.1.1.0 i.1.1.0).0 other) in
    as_many w first s t h.front k.front i.0 j.0 i.1.1.0 j.1.1.0 (omega (arith, less, more))

pub one_common_base : (w : Style) (paths : List (List ℕ)) (s t : List ℕ) → IsCommonBase w paths s → IsCommonBase w paths t → s ≡ t
one_common_base w [] s t h k = absurd h
one_common_base w (first ∷ others) s t h k = base_same w first others s t h k

-- the first path that is apart
not_alike : (w : Style) (first path : List ℕ) (n : ℕ) (e : CommonBaseError) → BeginAlike w first path → ¬ (IsApart w first path n e)
not_alike w first path n error.NoPath h a = a
not_alike w first path n (error.Prefix at) h a = a.1 h.0
not_alike w first path n (error.Root at) h a = a.1.1 h.1

apart_same : (w : Style) (first path : List ℕ) (n : ℕ) (e f : CommonBaseError) → IsApart w first path n e → IsApart w first path n f → e ≡ f
apart_same w first path n error.NoPath f a b = absurd a
apart_same w first path n (error.Prefix i) error.NoPath a b = absurd b
apart_same w first path n (error.Prefix i) (error.Prefix j) a b = ap error.Prefix (a.0 ∙ sym b.0)
apart_same w first path n (error.Prefix i) (error.Root j) a b = absurd (a.1 b.1.0)
apart_same w first path n (error.Root i) error.NoPath a b = absurd b
apart_same w first path n (error.Root i) (error.Prefix j) a b = absurd (b.1 a.1.0)
apart_same w first path n (error.Root i) (error.Root j) a b = ap error.Root (a.0 ∙ sym b.0)

first_apart : (w : Style) (first : List ℕ) (n : ℕ) (xs ys : List (List ℕ)) (s t : List ℕ) (us vs : List (List ℕ)) (e f : CommonBaseError) → xs ++ s ∷ us ≡ ys ++ t ∷ vs → AllByRecursion (BeginAlike w first) xs → AllByRecursion (BeginAlike w first) ys → IsApart w first s (length xs + n) e → IsApart w first t (length ys + n) f → e ≡ f
first_apart w first n [] [] s t us vs e f q a b h k = let same : s ≡ t = cc in apart_same w first t (length {A = List ℕ} [] + n) e f (subst (λ z. IsApart w first z (length {A = List ℕ} [] + n) e) same h) k
first_apart w first n [] (y ∷ ys) s t us vs e f q a b h k = let same : y ≡ s = cc in absurd (not_alike w first s (length {A = List ℕ} [] + n) e (subst (BeginAlike w first) same b.0) h)
first_apart w first n (x ∷ xs) [] s t us vs e f q a b h k = let same : x ≡ t = cc in absurd (not_alike w first t (length {A = List ℕ} [] + n) f (subst (BeginAlike w first) same a.0) k)
first_apart w first n (x ∷ xs) (y ∷ ys) s t us vs e f q a b h k =
    let more : length (x ∷ xs) + n ≡ length xs + (n + 1) = omega arith in
    let others : length (y ∷ ys) + n ≡ length ys + (n + 1) = omega arith in
    let rest : xs ++ s ∷ us ≡ ys ++ t ∷ vs = cc in
    first_apart w first (n + 1) xs ys s t us vs e f rest a.1 b.1 (subst (λ z. IsApart w first s z e) more h) (subst (λ z. IsApart w first t z f) others k)

pub one_common_base_fault : (w : Style) (paths : List (List ℕ)) (e f : CommonBaseError) → IsCommonBaseFault w paths e → IsCommonBaseFault w paths f → e ≡ f
one_common_base_fault w [] e f h k = h ∙ sym k
one_common_base_fault w (first ∷ others) e f h k = first_apart w first 1 h.before k.before h.path k.path h.after k.after e f (sym h.are ∙ k.are) h.alike k.alike h.apart k.apart

-- another last name
named_twice : (w : Style) (path parent : List ℕ) → IsParent w path parent → (name : List ℕ) × HasFileName w path name → HasNoFileName w path → ⊥
named_twice w path parent p h n =
    let items = p.items ++ p.last ∷ [] in
    let last = h.1 items p.whole in n items last.0 h.0 p.whole last.1

base_of_name : (w : Style) (path s t : List ℕ) → IsNameBase w path s → IsNameBase w path t → s ≡ t
base_of_name w path s t (inl h) (inl k) = one_parent w path s t h.1 k.1
base_of_name w path s t (inl h) (inr k) = absurd (named_twice w path s h.1 h.0 k.0)
base_of_name w path s t (inr h) (inl k) = absurd (named_twice w path t k.1 k.0 h.0)
base_of_name w path s t (inr h) (inr k) = h.1 ∙ sym k.1

pub one_named : (w : Style) (path name s t : List ℕ) → IsNamed w path name s → IsNamed w path name t → s ≡ t
one_named w path name s t h k =
    let same = base_of_name w path h.0 k.0 h.1.0 k.1.0 in one_join w k.0 name s t (subst (λ z. IsJoin w z name s) same h.1.1) k.1.1

one_stem : (name s t : List ℕ) → IsStem name s → IsStem name t → s ≡ t
one_stem name s t (inl h) (inl k) = (one_extension name s h.0 t k.0 h.1 k.1).0
one_stem name s t (inl h) (inr k) = absurd (k.0 s h.0 h.1)
one_stem name s t (inr h) (inl k) = absurd (h.0 t k.0 k.1)
one_stem name s t (inr h) (inr k) = h.1 ∙ sym k.1

stem_same : (w : Style) (path stem s t : List ℕ) → IsNamedByStem w path stem s → IsNamedByStem w path stem t → s ≡ t
stem_same w path stem s t h k =
    let last = (same_from_push h.items k.items (Normal h.name) (Normal k.name) (one_components w path (h.items ++ Normal h.name ∷ []) (k.items ++ Normal k.name ∷ []) h.whole k.whole)).1 in
    let names : h.name ≡ k.name = cc in
    let own = one_stem k.name h.own k.own (subst (λ z. IsStem z h.own) names h.own_is) k.own_is in
    let after = append_cancel_left k.own h.after k.after (ap (λ z. z ++ h.after) (sym own) ∙ sym h.joined ∙ names ∙ k.joined) in
    one_named w path (stem ++ k.after) s t (subst (λ z. IsNamed w path (stem ++ z) s) after h.named) k.named

pub one_stem_set : (w : Style) (path stem s t : List ℕ) → IsStemSet w path stem s → IsStemSet w path stem t → s ≡ t
one_stem_set w path stem s t (inl h) (inl k) = stem_same w path stem s t h k
one_stem_set w path stem s t (inl h) (inr k) = absurd (k.0 (h.items ++ Normal h.name ∷ []) h.items h.name h.whole refl)
one_stem_set w path stem s t (inr h) (inl k) = absurd (h.0 (k.items ++ Normal k.name ∷ []) k.items k.name k.whole refl)
one_stem_set w path stem s t (inr h) (inr k) = h.1 ∙ sym k.1
