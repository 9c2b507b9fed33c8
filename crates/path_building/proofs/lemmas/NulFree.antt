-- A path below a base has no NUL where the base and the path have none.
use Rattle.std.proofs.Common.{◌≡◌, ◌≢◌, inl, inr, ◌<◌, ℕ, Bool, true, false, if◌then◌else◌, List, [], ◌∷◌, ◌++◌, Option, Some, None, reverse, refl, sym, ◌∙◌, subst, append-nil, arith}
use Rattle.std.specs.List.{AllByRecursion, slice_split, onto_first, filter_map, cons_option}
use Rattle.std.proofs.lemmas.List.{reverse-reverse}
use Rattle.std.proofs.lemmas.List.Splits.{slice_split-cons_yes, slice_split-cons_no}
use Rattle.path_rules.specs.declared.rules.Rules.{Rules}
use Rattle.path_rules.specs.declared.rules.Rules.TheVariants as rules
use Rattle.path_rules.specs.declared.rules.Style as whose
use Rattle.path_rules.specs.declared.rules.Style.TheVariants as style
use Rattle.path_rules.specs.declared.head.Start.{Start}
use Rattle.path_rules.specs.declared.head.Start.TheVariants.{Root, Dot, Nothing}
use Rattle.path_rules.specs.Separators.{separates}
use Rattle.path_rules.specs.StyleRules.{main_separator}
use Rattle.path_rules.specs.Component.{Item, Prefix, RootDir, CurDir, ParentDir, Normal, named, components_in}
use Rattle.path_rules.specs.Components.{AreComponents, prefixed, bare, start_of, after_start, root_of, after_root}
use Rattle.path_rules.specs.Heads.{start_items}
use Rattle.path_rules.specs.Prefix.{begins_verbatim, rules_of}
use Rattle.path_building.specs.Join.{without_dot}
use Rattle.path_building.specs.Normal.{LeadsTo, nowhere, prefix, bare_root, root, start, here, name, up}
use Rattle.path_building.specs.Written.{spelling, more_names, joined_names, rooted_names, written, written_apart, IsWritten}
use Rattle.path_building.specs.Base.{HasNoNul, own_root}
use Rattle.path_building.specs.Checked.{IsCheckedJoin}
use Rattle.path_building.proofs.lemmas.Resolving.{onto, onto_is}
use Rattle.path_building.proofs.lemmas.Spelling.{named_spelled}

-- lists without NUL, cut and joined
both_free : (s t : List ℕ) → HasNoNul s → HasNoNul t → HasNoNul (s ++ t)
both_free [] t f g = g
both_free (b ∷ s) t f g = (f.0, both_free s t f.1 g)

first_free : (s t : List ℕ) → HasNoNul (s ++ t) → HasNoNul s
first_free [] t f = tt
first_free (b ∷ s) t f = (f.0, first_free s t f.1)

second_free : (s t : List ℕ) → HasNoNul (s ++ t) → HasNoNul t
second_free [] t f = f
second_free (b ∷ s) t f = second_free s t f.1

-- components whose bytes have none
abbrev IsFreeItem : Item → Type 0
IsFreeItem (Prefix s) = HasNoNul s
IsFreeItem RootDir = Unit {0}
IsFreeItem CurDir = Unit {0}
IsFreeItem ParentDir = Unit {0}
IsFreeItem (Normal s) = HasNoNul s

abbrev AreFreeItems : List Item → Type 0
AreFreeItems xs = AllByRecursion IsFreeItem xs

named_free : (r : Rules) (p : List ℕ) (x : Item) → named r p ≡ Some x → HasNoNul p → IsFreeItem x
named_free r p (Prefix s) e f = let none : [] ≡ p = named_spelled r p (Prefix s) e in absurd (no_prefix_named p none e)
  where
    no_prefix_named : (q : List ℕ) → [] ≡ q → named r q ≡ Some (Prefix s) → ⊥
    no_prefix_named [] h k = let never : None ≡ Some (Prefix s) = k in cc
    no_prefix_named (b ∷ q) h k = cc
named_free r p RootDir e f = tt
named_free r p CurDir e f = tt
named_free r p ParentDir e f = tt
named_free r p (Normal s) e f = subst HasNoNul (sym (named_spelled r p (Normal s) e)) f

module _ (r : Rules) where
  onto_free : (b : ℕ) (ps : List (List ℕ)) → b ≢ 0 → AllByRecursion HasNoNul ps → AllByRecursion HasNoNul (onto_first b ps)
  onto_free b [] n f = ((n, tt), tt)
  onto_free b (p ∷ ps) n f = ((n, f.0), f.1)

  parts_free : (s : List ℕ) → HasNoNul s → AllByRecursion HasNoNul (slice_split (separates r) s)
  parts_free [] f = (tt, tt)
  parts_free (b ∷ s) f = cases (separates r b) refl (parts_free s f.1)
    where
      cases : (v : Bool) → separates r b ≡ v → AllByRecursion HasNoNul (slice_split (separates r) s) → AllByRecursion HasNoNul (slice_split (separates r) (b ∷ s))
      cases true e h = subst (AllByRecursion HasNoNul) (sym (slice_split-cons_yes (separates r) b s e)) (tt, h)
      cases false e h = subst (AllByRecursion HasNoNul) (sym (slice_split-cons_no (separates r) b s e)) (onto_free b (slice_split (separates r) s) f.0 h)

  add_free : (p : List ℕ) (o : Option Item) (xs : List Item) → named r p ≡ o → HasNoNul p → AreFreeItems xs → AreFreeItems (cons_option o xs)
  add_free p None xs e f g = g
  add_free p (Some x) xs e f g = (named_free r p x e f, g)

  names_free : (ps : List (List ℕ)) → AllByRecursion HasNoNul ps → AreFreeItems (filter_map (named r) ps)
  names_free [] f = tt
  names_free (p ∷ ps) f = add_free p (named r p) (filter_map (named r) ps) refl f.0 (names_free ps f.1)

  body_free : (s : List ℕ) → HasNoNul s → AreFreeItems (components_in r s)
  body_free s f = names_free (slice_split (separates r) s) (parts_free s f)

top_free : (st : Start) (xs : List Item) → AreFreeItems xs → AreFreeItems (start_items st ++ xs)
top_free Root xs f = (tt, f)
top_free Dot xs f = (tt, f)
top_free Nothing xs f = f

after_free : (st : Start) (s : List ℕ) → HasNoNul s → HasNoNul (after_start st s)
after_free Nothing s f = f
after_free Root [] f = tt
after_free Root (b ∷ s) f = f.1
after_free Dot [] f = tt
after_free Dot (b ∷ s) f = f.1

root_free : (s : List ℕ) → HasNoNul s → HasNoNul (after_root s)
root_free [] f = tt
root_free (b ∷ s) f = cases (separates rules.Either b)
  where
    cases : (v : Bool) → HasNoNul (if v then s else b ∷ s)
    cases true = f.1
    cases false = f

items_free : (w : whose.Style) (s : List ℕ) (items : List Item) → AreComponents w s items → HasNoNul s → AreFreeItems items
items_free style.Unix s items a f =
    let st = start_of rules.Slash s in subst AreFreeItems (sym a) (top_free st (components_in rules.Slash (after_start st s)) (body_free rules.Slash (after_start st s) (after_free st s f)))
items_free style.Windows s items (bare a) f =
    let st = start_of rules.Either s in subst AreFreeItems (sym a.are) (top_free st (components_in rules.Either (after_start st s)) (body_free rules.Either (after_start st s) (after_free st s f)))
items_free style.Windows s items (prefixed a) f =
    let whole = subst HasNoNul a.joined f in
    let rest = root_free a.rest (second_free a.raw a.rest whole) in
    subst AreFreeItems (sym a.are) (first_free a.raw a.rest whole, top_free (root_of a.kind a.rest) (components_in (rules_of a.kind) (after_root a.rest)) (body_free (rules_of a.kind) (after_root a.rest) rest))

-- what they lead to
left_free : {xs ys : List Item} → LeadsTo xs ys → AreFreeItems xs → AreFreeItems ys
left_free nowhere f = f
left_free prefix f = f
left_free bare_root f = f
left_free root f = f
left_free start f = f
left_free (here h) f = left_free h f.1
left_free (name h) f = (f.0, left_free h f.1)
left_free (up h) f = (left_free h f.1).1

onto_items : (xs d : List Item) → AreFreeItems xs → AreFreeItems d → AreFreeItems (onto xs d)
onto_items [] d f g = g
onto_items (x ∷ xs) d f g = onto_items xs (x ∷ d) f.1 (f.0, g)

reversed : (xs : List Item) → AreFreeItems xs → AreFreeItems (reverse xs)
reversed xs f = subst AreFreeItems (onto_is xs [] ∙ append-nil (reverse xs)) (onto_items xs [] f tt)

no_dot : (xs : List Item) → AreFreeItems xs → AreFreeItems (without_dot xs)
no_dot [] f = f
no_dot (Prefix s ∷ xs) f = f
no_dot (RootDir ∷ xs) f = f
no_dot (CurDir ∷ xs) f = f.1
no_dot (ParentDir ∷ xs) f = f
no_dot (Normal s ∷ xs) f = f

items_both : (xs ys : List Item) → AreFreeItems xs → AreFreeItems ys → AreFreeItems (xs ++ ys)
items_both [] ys f g = g
items_both (x ∷ xs) ys f g = (f.0, items_both xs ys f.1 g)

root_items : (xs ns : List Item) → AreFreeItems ns → AreFreeItems (own_root xs ++ ns)
root_items [] ns f = f
root_items (Prefix s ∷ []) ns f = cases (begins_verbatim s)
  where
    cases : (v : Bool) → AreFreeItems ((if v then RootDir ∷ [] else []) ++ ns)
    cases true = (tt, f)
    cases false = f
root_items (Prefix s ∷ y ∷ xs) ns f = f
root_items (RootDir ∷ xs) ns f = f
root_items (CurDir ∷ xs) ns f = f
root_items (ParentDir ∷ xs) ns f = f
root_items (Normal s ∷ xs) ns f = f

-- what is written of them
some : (n : ℕ) → 0 < n → n ≢ 0
some n l e = omega (arith, l, e)

module _ (c : ℕ) (n : c ≢ 0) where
  spelling_free : (x : Item) → IsFreeItem x → HasNoNul (spelling x)
  spelling_free (Prefix s) f = tt
  spelling_free RootDir f = tt
  spelling_free CurDir f = (some 0x2E (omega arith), tt)
  spelling_free ParentDir f = (some 0x2E (omega arith), (some 0x2E (omega arith), tt))
  spelling_free (Normal s) f = f

  more_free : (xs : List Item) → AreFreeItems xs → HasNoNul (more_names c xs)
  more_free [] f = tt
  more_free (x ∷ xs) f = (n, both_free (spelling x) (more_names c xs) (spelling_free x f.0) (more_free xs f.1))

  joined_free : (xs : List Item) → AreFreeItems xs → HasNoNul (joined_names c xs)
  joined_free [] f = tt
  joined_free (x ∷ xs) f = both_free (spelling x) (more_names c xs) (spelling_free x f.0) (more_free xs f.1)

  rooted_free : (xs : List Item) → AreFreeItems xs → HasNoNul (rooted_names c xs)
  rooted_free [] f = tt
  rooted_free (RootDir ∷ xs) f = (n, joined_free xs f.1)
  rooted_free (Prefix s ∷ xs) f = joined_free (Prefix s ∷ xs) f
  rooted_free (CurDir ∷ xs) f = joined_free (CurDir ∷ xs) f
  rooted_free (ParentDir ∷ xs) f = joined_free (ParentDir ∷ xs) f
  rooted_free (Normal s ∷ xs) f = joined_free (Normal s ∷ xs) f

  written_free : (xs : List Item) → AreFreeItems xs → HasNoNul (written c xs) × HasNoNul (written_apart c xs)
  written_free [] f = (tt, tt)
  written_free (Prefix s ∷ xs) f = let rest = rooted_free xs f.1 in (both_free s (rooted_names c xs) f.0 rest, both_free s (c ∷ rooted_names c xs) f.0 (n, rest))
  written_free (RootDir ∷ xs) f = let rest = rooted_free (RootDir ∷ xs) f in (rest, rest)
  written_free (CurDir ∷ xs) f = let rest = rooted_free (CurDir ∷ xs) f in (rest, rest)
  written_free (ParentDir ∷ xs) f = let rest = rooted_free (ParentDir ∷ xs) f in (rest, rest)
  written_free (Normal s ∷ xs) f = let rest = rooted_free (Normal s ∷ xs) f in (rest, rest)

separator_some : (w : whose.Style) → main_separator w ≢ 0
separator_some style.Unix = some 0x2F (omega arith)
separator_some style.Windows = some 0x5C (omega arith)

path_free : (w : whose.Style) (xs : List Item) (path : List ℕ) → IsWritten w xs path → AreFreeItems xs → HasNoNul path
path_free w xs path h f =
    let c = main_separator w in
    let n = separator_some w in
    let q = written_free c n xs f in
    elim h [
      | inl k ↦ subst HasNoNul (sym k.1) (n, (some 0x2E (omega arith), q.0))
      | inr k ↦ elim k.1 [ inl j ↦ subst HasNoNul (sym j.1) q.1 | inr j ↦ subst HasNoNul (sym j.1) q.0 ]
    ]

pub joined_no_nul : (w : whose.Style) (base path joined : List ℕ) → IsCheckedJoin w base path joined → HasNoNul joined
joined_no_nul w base path joined h =
    let inside = h.checked.inside in
    let items = items_free w path h.checked.items inside.are h.checked.no_nul in
    let normal = subst AreFreeItems (reverse-reverse inside.normal) (reversed (reverse inside.normal) (left_free inside.form (reversed h.checked.items items))) in
    let names = subst AreFreeItems (sym inside.is) (no_dot inside.normal normal) in
    let base_items = items_free w base h.base_items h.base_are h.place.0 in
    path_free w (h.base_items ++ (own_root h.base_items ++ h.names)) joined h.answers.1 (items_both h.base_items (own_root h.base_items ++ h.names) base_items (root_items h.base_items h.names names))
