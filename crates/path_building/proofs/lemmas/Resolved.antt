-- A path after a verbatim one: what it is resolved to, and how that is written.
use Rattle.std.proofs.Common.{◌≡◌, ◌≢◌, ℕ, true, false, List, [], ◌∷◌, ◌++◌, reverse, refl, sym, ap, ◌∙◌, subst}
use Rattle.std.proofs.lemmas.List.{reverse-append, reverse-reverse}
use Rattle.path_rules.specs.declared.rules.Rules.{Rules}
use Rattle.path_rules.specs.declared.rules.Rules.TheVariants as rules
use Rattle.path_rules.specs.declared.rules.Style.TheVariants as style
use Rattle.path_rules.specs.declared.head.Start.{Start}
use Rattle.path_rules.specs.declared.head.Start.TheVariants.{Root, Dot, Nothing}
use Rattle.path_rules.specs.declared.head.Head.{Head}
use Rattle.path_rules.specs.Component.{Item, Prefix, RootDir, CurDir, ParentDir, Normal, components_in}
use Rattle.path_rules.specs.Prefix.{IsPrefixed, rules_of}
use Rattle.path_rules.specs.Heads.{prefix_items, start_items, items_of}
use Rattle.path_rules.specs.HeadParts.{IsHead, IsPrefixedHead, bare_head, prefixed_head}
use Rattle.path_rules.specs.Components.{AreComponents}
use Rattle.path_building.specs.Normal.{AreNames}
use Rattle.path_building.specs.Resolved.{IsNoName, ResolvesTo, nothing, root, here, name, up, stays, below_root, IsResolved}
use Rattle.path_building.specs.Join.{IsVerbatimPath}
use Rattle.path_building.specs.Written.{written}
use Rattle.path_building.specs.Spelled.{after_bytes, go_up, cleaned, AreSpelled, kept_names, start_below}
use Rattle.path_rules.proofs.lemmas.AfterPrefix.{some_of}
use Rattle.path_rules.proofs.lemmas.OneList.{one_prefix}
use Rattle.path_building.proofs.lemmas.Resolving.{onto, onto_is, no_prefix, no_root, cleaned_spelled, from_reverse}
use Rattle.path_building.proofs.lemmas.Spelling.{body_spelled}
use Rattle.path_building.proofs.lemmas.AsWritten.{after_once}
use Rattle.path_building.proofs.lemmas.Forms.{no_dot_after, nothing_after}
use Rattle.path_building.proofs.lemmas.Checks.{reverse_names, spelled_after}

-- components are resolved to one list
no_name : (s : List ℕ) (ys zs : List Item) → Normal s ∷ ys ≡ zs → IsNoName zs → ⊥
no_name s ys zs e h = subst IsNoName (sym e) h

first_prefix : (s t : List ℕ) (xs ys : List Item) → Prefix s ∷ xs ≡ Prefix t ∷ ys → s ≡ t
first_prefix s t xs ys e = cc

pub one_resolved : {base xs ys zs : List Item} → ResolvesTo base xs ys → ResolvesTo base xs zs → ys ≡ zs
one_resolved nothing nothing = refl
one_resolved (root {s} {xs} e) (root {s = t} {xs = ys} f) = ap (λ z. RootDir ∷ Prefix z ∷ []) (first_prefix s t xs ys (sym e ∙ f))
one_resolved (here h) (here k) = one_resolved h k
one_resolved (name {s} h) (name k) = ap (λ z. Normal s ∷ z) (one_resolved h k)
one_resolved (up h) (up k) = let same = one_resolved h k in cc
one_resolved (up {s} {ys = ys} h) (stays {ys = zs} k t) = absurd (no_name s ys zs (one_resolved h k) t)
one_resolved (stays {ys = ys} h t) (up {s} {ys = zs} k) = absurd (no_name s zs ys (sym (one_resolved h k)) t)
one_resolved (stays h t) (stays k u) = one_resolved h k

-- read one by one
module _ (r : Rules) (base rb : List Item) (top : IsNoName rb) where
  go_up_resolves : (stack done : List Item) → ResolvesTo base done (stack ++ rb) → ResolvesTo base (ParentDir ∷ done) (go_up true stack ++ rb)
  go_up_resolves [] done l = stays l top
  go_up_resolves (Prefix s ∷ stack) done l = stays l tt
  go_up_resolves (RootDir ∷ stack) done l = stays l tt
  go_up_resolves (CurDir ∷ stack) done l = stays l tt
  go_up_resolves (ParentDir ∷ stack) done l = stays l tt
  go_up_resolves (Normal s ∷ stack) done l = up l

  cleaned_resolves : (stack xs done : List Item) → AreSpelled r xs → ResolvesTo base done (stack ++ rb) → ResolvesTo base (onto xs done) (cleaned true stack xs ++ rb)
  cleaned_resolves stack [] done h l = l
  cleaned_resolves stack (Normal s ∷ xs) done h l = cleaned_resolves (Normal s ∷ stack) xs (Normal s ∷ done) h.1 (name l)
  cleaned_resolves stack (ParentDir ∷ xs) done h l = cleaned_resolves (go_up true stack) xs (ParentDir ∷ done) h.1 (go_up_resolves stack done l)
  cleaned_resolves stack (CurDir ∷ xs) done h l = cleaned_resolves stack xs (CurDir ∷ done) h.1 (here l)
  cleaned_resolves stack (Prefix s ∷ xs) done h l = absurd (no_prefix r s h.0)
  cleaned_resolves stack (RootDir ∷ xs) done h l = absurd (no_root r h.0)

module _ (r : Rules) where
  go_up_names : (stack : List Item) → AreNames stack → AreNames (go_up true stack)
  go_up_names [] h = h
  go_up_names (Prefix s ∷ stack) h = absurd h
  go_up_names (RootDir ∷ stack) h = absurd h
  go_up_names (CurDir ∷ stack) h = absurd h
  go_up_names (ParentDir ∷ stack) h = absurd h
  go_up_names (Normal s ∷ stack) h = h

  cleaned_names : (stack xs : List Item) → AreSpelled r xs → AreNames stack → AreNames (cleaned true stack xs)
  cleaned_names stack [] h n = n
  cleaned_names stack (Normal s ∷ xs) h n = cleaned_names (Normal s ∷ stack) xs h.1 n
  cleaned_names stack (ParentDir ∷ xs) h n = cleaned_names (go_up true stack) xs h.1 (go_up_names stack n)
  cleaned_names stack (CurDir ∷ xs) h n = cleaned_names stack xs h.1 n
  cleaned_names stack (Prefix s ∷ xs) h n = absurd (no_prefix r s h.0)
  cleaned_names stack (RootDir ∷ xs) h n = absurd (no_root r h.0)

-- a root of the path, or else the base's start
abbrev pub above : Start → Start → Start
above Root st = Root
above Dot st = st
above Nothing st = st

turned : (p : List ℕ) (st : Start) (xs : List Item) → reverse (Prefix p ∷ (start_items st ++ xs)) ≡ reverse xs ++ reverse (Prefix p ∷ start_items st)
turned p st xs = reverse-append (Prefix p ∷ start_items st) xs

top_start : (p : List ℕ) (st : Start) → IsNoName (reverse (Prefix p ∷ start_items st))
top_start p Root = tt
top_start p Dot = tt
top_start p Nothing = tt

module _ (r : Rules) (p : List ℕ) (st : Start) (bs : List Item) (after : Start) (xs names : List Item) (sp : AreSpelled r xs) (e : reverse names ≡ cleaned true (reverse (kept_names after bs)) xs) where
  abbrev pub left_of : List Item
  left_of = Prefix p ∷ (start_items (above after st) ++ names)

  abbrev base_of : List Item
  base_of = Prefix p ∷ (start_items st ++ bs)

  from_start : (done stack : List Item) (up_to : Start) → above after st ≡ up_to → reverse names ≡ cleaned true stack xs → ResolvesTo base_of done (stack ++ reverse (Prefix p ∷ start_items up_to)) → reverse (start_items after) ≡ done → ResolvesTo base_of (reverse (start_items after ++ xs)) (reverse left_of)
  from_start done stack up_to is f l d =
      let rb = reverse (Prefix p ∷ start_items up_to) in
      let q = cleaned_resolves r base_of rb (top_start p up_to) stack xs done sp l in
      let first : onto xs done ≡ reverse (start_items after ++ xs) = onto_is xs done ∙ ap (λ z. reverse xs ++ z) (sym d) ∙ sym (reverse-append (start_items after) xs) in
      let second : cleaned true stack xs ++ rb ≡ reverse left_of = ap (λ z. z ++ rb) (sym f) ∙ sym (turned p up_to names) ∙ ap (λ z. reverse (Prefix p ∷ (start_items z ++ names))) (sym is) in
      subst (λ z. ResolvesTo base_of z (reverse left_of)) first (subst (ResolvesTo base_of (onto xs done)) second q)

  nothing_yet : ResolvesTo base_of [] (reverse bs ++ reverse (Prefix p ∷ start_items st))
  nothing_yet = subst (ResolvesTo base_of []) (turned p st bs) nothing

pub resolves : (r : Rules) (p : List ℕ) (st : Start) (bs : List Item) (after : Start) (xs names : List Item) → AreSpelled r xs → reverse names ≡ cleaned true (reverse (kept_names after bs)) xs → ResolvesTo (Prefix p ∷ (start_items st ++ bs)) (reverse (start_items after ++ xs)) (reverse (Prefix p ∷ (start_items (above after st) ++ names)))
resolves r p st bs Root xs names sp e = from_start r p st bs Root xs names sp e (RootDir ∷ []) [] Root refl e (root refl) refl
resolves r p st bs Dot xs names sp e = from_start r p st bs Dot xs names sp e (CurDir ∷ []) (reverse bs) st refl e (here (nothing_yet r p st bs Dot xs names sp e)) refl
resolves r p st bs Nothing xs names sp e = from_start r p st bs Nothing xs names sp e [] (reverse bs) st refl e (nothing_yet r p st bs Nothing xs names sp e) refl

-- names below a prefix without a root are names alone
some_names : (p : List ℕ) (names : List Item) → AreNames names → (after : Start) → after ≢ Root → below_root (Prefix p ∷ names) ≡ Prefix p ∷ (start_items (start_below after Nothing names) ++ names)
some_names p [] h Root n = absurd (n refl)
some_names p [] h Dot n = refl
some_names p [] h Nothing n = refl
some_names p (Prefix s ∷ xs) h after n = absurd h
some_names p (RootDir ∷ xs) h after n = absurd h
some_names p (CurDir ∷ xs) h after n = absurd h
some_names p (ParentDir ∷ xs) h after n = absurd h
some_names p (Normal s ∷ xs) h Root n = absurd (n refl)
some_names p (Normal s ∷ xs) h Dot n = refl
some_names p (Normal s ∷ xs) h Nothing n = refl

rooted_start : (after : Start) (names : List Item) → start_below after Root names ≡ Root
rooted_start Root names = refl
rooted_start Dot [] = refl
rooted_start Dot (x ∷ xs) = refl
rooted_start Nothing [] = refl
rooted_start Nothing (x ∷ xs) = refl

alone_names : (r : Rules) (bs : List Item) (stack xs names : List Item) → AreSpelled r xs → AreNames stack → reverse names ≡ cleaned true stack xs → AreNames names
alone_names r bs stack xs names sp n e = subst AreNames (reverse-reverse names) (reverse_names (reverse names) (subst AreNames (sym e) (cleaned_names r stack xs sp n)))

pub below_is : (r : Rules) (p : List ℕ) (st : Start) (bs : List Item) (after : Start) (xs names : List Item) → st ≢ Dot → (st ≡ Nothing → bs ≡ []) → AreSpelled r xs → reverse names ≡ cleaned true (reverse (kept_names after bs)) xs
    → below_root (Prefix p ∷ (start_items (above after st) ++ names)) ≡ Prefix p ∷ (start_items (start_below after st names) ++ names)
below_is r p st bs Root xs names d none sp e = refl
below_is r p Root bs after xs names d none sp e = cases after
  where
    cases : (a : Start) → below_root (Prefix p ∷ (start_items (above a Root) ++ names)) ≡ Prefix p ∷ (start_items (start_below a Root names) ++ names)
    cases Root = refl
    cases Dot = ap (λ z. Prefix p ∷ (start_items z ++ names)) (sym (rooted_start Dot names))
    cases Nothing = ap (λ z. Prefix p ∷ (start_items z ++ names)) (sym (rooted_start Nothing names))
below_is r p Dot bs after xs names d none sp e = absurd (d refl)
below_is r p Nothing bs Dot xs names d none sp e = some_names p names (alone_names r bs [] xs names sp tt (e ∙ ap (λ z. cleaned true (reverse z) xs) (none refl))) Dot (λ z. let never : Dot ≡ Root = z in cc)
below_is r p Nothing bs Nothing xs names d none sp e = some_names p names (alone_names r bs [] xs names sp tt (e ∙ ap (λ z. cleaned true (reverse z) xs) (none refl))) Nothing (λ z. let never : Nothing ≡ Root = z in cc)

-- what is kept, and then resolved, is spelled as it was
kept_spelled : (r : Rules) (after : Start) (bs : List Item) → AreSpelled r bs → AreSpelled r (kept_names after bs)
kept_spelled r Root bs h = tt
kept_spelled r Dot bs h = h
kept_spelled r Nothing bs h = h

pub left_spelled : (r : Rules) (after : Start) (bs xs names : List Item) → AreSpelled r bs → AreSpelled r xs → reverse names ≡ cleaned true (reverse (kept_names after bs)) xs → AreSpelled r names
left_spelled r after bs xs names h k e =
    let kept = kept_names after bs in
    let turned = from_reverse r (reverse kept) (subst (AreSpelled r) (sym (reverse-reverse kept)) (kept_spelled r after bs h)) in
    from_reverse r names (subst (AreSpelled r) (sym e) (cleaned_spelled r [] true (reverse kept) xs k turned))

-- after a prefix of one byte or more
pub after_some : (r : Rules) (p : List ℕ) (st : Start) (names : List Item) → p ≢ [] → AreSpelled r names → p ++ after_bytes 0x5C st false names ≡ written 0x5C (Prefix p ∷ (start_items st ++ names))
after_some r [] st names n sp = absurd (n refl)
after_some r (b ∷ p) st names n sp = after_once r 0x5C b p st names sp

some_items : (p : List ℕ) (xs : List Item) → p ≢ [] → prefix_items p ++ xs ≡ Prefix p ∷ xs
some_items [] xs n = absurd (n refl)
some_items (b ∷ p) xs n = refl

bare_items : (p : List ℕ) (xs : List Item) → p ≡ [] → prefix_items p ++ xs ≡ xs
bare_items [] xs e = refl
bare_items (b ∷ p) xs e = cc

verbatim_head : (base : List ℕ) (head : Head) → IsPrefixedHead base head → IsVerbatimPath style.Windows base → head.rules ≡ rules.Verbatim
verbatim_head base head h v = h.rules ∙ ap rules_of (one_prefix base h.kind v.0 h.rest v.1.0 h.is v.1.1.0).0 ∙ v.1.1.1

-- the path that is written
pub resolved_path : (base path : List ℕ) (head added : Head) → AreComponents style.Windows base (items_of head) → IsHead style.Windows base head → AreComponents style.Windows path (items_of added) → IsHead style.Windows path added → IsVerbatimPath style.Windows base → ¬ (IsPrefixed style.Windows path)
    → (names : List Item) → reverse names ≡ cleaned true (reverse (kept_names added.start (components_in head.rules head.body.now))) (components_in added.rules added.body.now)
    → IsResolved base path (head.prefix.now ++ after_bytes 0x5C (start_below added.start head.start names) false names)
resolved_path base path head added base_are (bare_head h) are k v n names e = absurd (h.none v.0 v.1.0 v.1.1.0)
resolved_path base path head added base_are (prefixed_head h) are (prefixed_head k) v n names e = absurd (n (k.kind, (k.rest, k.is)))
resolved_path base path head added base_are (prefixed_head h) are (bare_head k) v n names e =
    let p = head.prefix.now in
    let st = head.start in
    let bs = components_in head.rules head.body.now in
    let after = added.start in
    let xs = components_in added.rules added.body.now in
    let some = some_of base head h in
    let sp = body_spelled added.rules added.body.now in
    let either : AreSpelled rules.Either xs = subst (λ z. AreSpelled z xs) k.rules sp in
    let verbatim : AreSpelled head.rules xs = spelled_after style.Windows base head (prefixed_head h) xs either in
    let left = left_spelled head.rules after bs xs names (body_spelled head.rules head.body.now) verbatim e in
    let tight = no_dot_after style.Windows base head (prefixed_head h) some in
    let none : st ≡ Nothing → bs ≡ [] = λ z. nothing_after style.Windows base head (prefixed_head h) (verbatim_head base head h v) z in
    record {
      left = Prefix p ∷ (start_items (above after st) ++ names);
      resolved = record {
        base_items = Prefix p ∷ (start_items st ++ bs);
        items = start_items after ++ xs;
        base_are = subst (AreComponents style.Windows base) (some_items p (start_items st ++ bs) some) base_are;
        are = subst (AreComponents style.Windows path) (bare_items added.prefix.now (start_items after ++ xs) k.prefix) are;
        form = resolves added.rules p st bs after xs names sp e;
      };
      is = after_some head.rules p (start_below after st names) names some left ∙ ap (written 0x5C) (sym (below_is added.rules p st bs after xs names tight none sp e));
    }
