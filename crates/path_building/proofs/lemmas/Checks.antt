-- What is known of a path below a base.
use Rattle.std.proofs.Common.{◌≡◌, ◌≢◌, ◌↔◌, inr, ℕ, Bool, true, false, ◌&&◌, ◌||◌, IsTrue, nat_eq, if◌then◌else◌, List, [], ◌∷◌, ◌++◌, Option, Some, None, Result, Ok, Err, IfErr, reverse, refl, sym, ap, ◌∙◌, subst, append_assoc, append-nil}
use Rattle.std.specs.List.{AllByRecursion}
use Rattle.std.proofs.lemmas.List.{reverse-reverse, reverse-append}
use Rattle.std.proofs.lemmas.List.Elements.{All-head, All-tail, All-cons, All-nil}
use Rattle.path_rules.specs.declared.rules.Rules.{Rules}
use Rattle.path_rules.specs.declared.rules.Rules.TheVariants as rules
use Rattle.path_rules.specs.declared.rules.Style as whose
use Rattle.path_rules.specs.declared.rules.Style.TheVariants as style
use Rattle.path_rules.specs.declared.head.Start.{Start}
use Rattle.path_rules.specs.declared.head.Start.TheVariants.{Root, Dot, Nothing}
use Rattle.path_rules.specs.declared.head.Head.{Head}
use Rattle.path_rules.specs.Separators.{separates, Edge, IsPlain, IsCut, IsField}
use Rattle.path_rules.specs.StyleRules.{rules_of_style}
use Rattle.path_rules.specs.Component.{Item, Prefix, RootDir, CurDir, ParentDir, Normal, dot, named, components_in}
use Rattle.path_rules.specs.Components.{start_of, after_start, AreComponents}
use Rattle.path_rules.specs.Prefix.{Kind, Verbatim, VerbatimUnc, VerbatimDisk, Device, Unc, Disk, IsPrefixOf, rules_of, IsPrefixed}
use Rattle.path_rules.specs.Heads.{prefix_items, start_items, items_of}
use Rattle.path_rules.specs.HeadParts.{IsHead, bare_head, prefixed_head}
use Rattle.path_rules.specs.Root.{BeginsWithSeparator}
use Rattle.path_building.specs.Join.{IsRelativeTo, without_dot}
use Rattle.path_building.specs.Normal.{AreNames, LeadsTo, nowhere, start, AreNormalOf}
use Rattle.path_building.specs.Written.{spelling, IsPathOf}
use Rattle.path_building.specs.Spelled.{BeginsAsPrefix, resolve, AreSpelled, MayStart, IsNamesAfter}
use Rattle.path_building.specs.Base.{HasNoNul, AreFree, IsBase, IsVerbatimAlone}
use Rattle.path_building.specs.Walked.{LeadTo, StopsAt, IsWalkFault}
use Rattle.path_building.specs.Faults.{IsFit, IsFirstFault, HasFault, IsNameFault}
use Rattle.path_building.specs.declared.walk.NameError.{NameError}
use Rattle.path_building.specs.declared.walk.NameError.TheVariants as error
use Rattle.path_building.specs.Normalized.{BeginsWithColon}
use Rattle.path_building.proofs.lemmas.Beginnings.{plain_start}
use Rattle.path_building.specs.Checked.{NamesNoStream, NameNoStream, LeadsInside, AreCheckedNames, IsCheckedJoin, IsBelowBase}
use Rattle.path_rules.proofs.lemmas.Bodies.{one_item, no_item, first_item}
use Rattle.path_rules.proofs.lemmas.Edges.{edge_or_disk}
use Rattle.path_rules.proofs.lemmas.AfterPrefix.{some_of}
use Rattle.path_building.proofs.lemmas.Forms.{dots_left, empty_rest, resolved_form, names_spelled}
use Rattle.path_building.proofs.lemmas.Joins.{refuted}
use Rattle.path_rules.proofs.lemmas.OneList.{one_components}
use Rattle.path_building.proofs.lemmas.Bases.{alone_items, root_items, root_open, root_of_alone, no_own_root}
use Rattle.path_building.proofs.lemmas.Resolving.{onto, onto_is, resolve_leads}
use Rattle.path_building.proofs.lemmas.Spelling.{named_spelled, body_spelled}
use Rattle.path_rules.proofs.lemmas.Starts.{with_root, is_root}
use Rattle.path_rules.proofs.lemmas.Totals.{some_field, none_by_cut}

-- a path that begins with no separator starts with no root
not_root : (r : Rules) (s : List ℕ) → ¬ (BeginsWithSeparator r s) → start_of r s ≢ Root
not_root r [] n e = let never : Nothing ≡ Root = e in cc
not_root r (b ∷ s) n e = cases (separates r b) refl
  where
    cases : (v : Bool) → separates r b ≡ v → ⊥
    cases true f = n f
    cases false f = is_root r b s e f

-- what the tests tell
pub relative_to : (w : whose.Style) (path : List ℕ) (p : Bool) → (IsTrue p ↔ IsPrefixed w path) → p ≡ false → (r : Rules) → r ≡ rules_of_style w → (q : Bool) → (IsTrue q ↔ BeginsWithSeparator r path) → q ≡ false → IsRelativeTo w path
relative_to w path p h e r f q k g = (refuted _ p h e, subst (λ z. ¬ (BeginsWithSeparator z path)) f (refuted _ q k g))

-- the parts of a path without a prefix and a root
pub record IsRelativeHead (w : whose.Style) (head : Head) : Type 0 where
  pub prefix : head.prefix.now ≡ []
  pub start : head.start ≢ Root
  pub rules : head.rules ≡ rules_of_style w

pub relative_head : (w : whose.Style) (path : List ℕ) (head : Head) → IsHead w path head → IsRelativeTo w path → IsRelativeHead w head
relative_head style.Unix path head h n = record { prefix = h.prefix; start = λ e. not_root rules.Slash path n.1 (sym h.start.0 ∙ e); rules = h.rules }
relative_head style.Windows path head (bare_head h) n = record { prefix = h.prefix; start = λ e. not_root rules.Either path n.1 (sym h.start.0 ∙ e); rules = h.rules }
relative_head style.Windows path head (prefixed_head h) n = absurd (n.0 (h.kind, (h.rest, h.is)))

-- `.` is no component of a body where it names nothing
no_first_dot : (r : Rules) → dot r ≡ None → (xs : List Item) → AreSpelled r xs → without_dot xs ≡ xs
no_first_dot r d [] h = refl
no_first_dot r d (Prefix s ∷ xs) h = refl
no_first_dot r d (RootDir ∷ xs) h = refl
no_first_dot r d (CurDir ∷ xs) h = let never : None ≡ Some CurDir = sym d ∙ h.0.names in cc
no_first_dot r d (ParentDir ∷ xs) h = refl
no_first_dot r d (Normal s ∷ xs) h = refl

after_dot : (r : Rules) (p : List ℕ) (st : Start) (xs : List Item) → p ≡ [] → st ≢ Root → dot r ≡ None → AreSpelled r xs → xs ≡ without_dot (prefix_items p ++ (start_items st ++ xs))
after_dot r [] Root xs e n d h = absurd (n refl)
after_dot r [] Dot xs e n d h = refl
after_dot r [] Nothing xs e n d h = sym (no_first_dot r d xs h)
after_dot r (b ∷ p) st xs e n d h = cc

-- a fact of all components but the root and the prefix
module _ (P : Item → Type 0) (here : P CurDir) where
  pub from_start : (p : List ℕ) (st : Start) (xs : List Item) → p ≡ [] → st ≢ Root → AllByRecursion P xs ↔ AllByRecursion P (prefix_items p ++ (start_items st ++ xs))
  from_start [] Root xs e n = absurd (n refl)
  from_start [] Dot xs e n = (λ h. (here, h), λ h. h.1)
  from_start [] Nothing xs e n = (λ h. h, λ h. h)
  from_start (b ∷ p) st xs e n = cc

  onto_all : (xs d : List Item) → AllByRecursion P xs → AllByRecursion P d → AllByRecursion P (onto xs d)
  onto_all [] d h k = k
  onto_all (x ∷ xs) d h k = onto_all xs (x ∷ d) h.1 (h.0, k)

  resolve_all : (stack xs final : List Item) → AllByRecursion P xs → AllByRecursion P stack → resolve stack xs ≡ Some final → AllByRecursion P final
  resolve_all stack [] final h n e = let same : stack ≡ final = cc in subst (AllByRecursion P) same n
  resolve_all stack (Normal s ∷ xs) final h n e = resolve_all (Normal s ∷ stack) xs final h.1 (h.0, n) e
  resolve_all [] (ParentDir ∷ xs) final h n e = let never : None ≡ Some final = e in cc
  resolve_all (x ∷ stack) (ParentDir ∷ xs) final h n e = resolve_all stack xs final h.1 n.1 e
  resolve_all stack (CurDir ∷ xs) final h n e = resolve_all stack xs final h.1 n e
  resolve_all stack (Prefix s ∷ xs) final h n e = resolve_all stack xs final h.1 n e
  resolve_all stack (RootDir ∷ xs) final h n e = resolve_all stack xs final h.1 n e

  pub names_all : (xs names : List Item) → AllByRecursion P xs → resolve [] xs ≡ Some (reverse names) → AllByRecursion P names
  names_all xs names h e =
      let q = resolve_all [] xs (reverse names) h tt e in
      subst (AllByRecursion P) (onto_is (reverse names) [] ∙ append-nil (reverse (reverse names)) ∙ reverse-reverse names) (onto_all (reverse names) [] q tt)

-- what names are resolved to are names
stack_names : (stack xs final : List Item) → AreNames stack → resolve stack xs ≡ Some final → AreNames final
stack_names stack [] final n e = let same : stack ≡ final = cc in subst AreNames same n
stack_names stack (Normal s ∷ xs) final n e = stack_names (Normal s ∷ stack) xs final n e
stack_names [] (ParentDir ∷ xs) final n e = let never : None ≡ Some final = e in cc
stack_names (Normal s ∷ stack) (ParentDir ∷ xs) final n e = stack_names stack xs final n e
stack_names (Prefix s ∷ stack) (ParentDir ∷ xs) final n e = absurd n
stack_names (RootDir ∷ stack) (ParentDir ∷ xs) final n e = absurd n
stack_names (CurDir ∷ stack) (ParentDir ∷ xs) final n e = absurd n
stack_names (ParentDir ∷ stack) (ParentDir ∷ xs) final n e = absurd n
stack_names stack (CurDir ∷ xs) final n e = stack_names stack xs final n e
stack_names stack (Prefix s ∷ xs) final n e = stack_names stack xs final n e
stack_names stack (RootDir ∷ xs) final n e = stack_names stack xs final n e

onto_names : (xs d : List Item) → AreNames xs → AreNames d → AreNames (onto xs d)
onto_names [] d n m = m
onto_names (Normal s ∷ xs) d n m = onto_names xs (Normal s ∷ d) n m
onto_names (Prefix s ∷ xs) d n m = absurd n
onto_names (RootDir ∷ xs) d n m = absurd n
onto_names (CurDir ∷ xs) d n m = absurd n
onto_names (ParentDir ∷ xs) d n m = absurd n

pub reverse_names : (xs : List Item) → AreNames xs → AreNames (reverse xs)
reverse_names xs n = subst AreNames (onto_is xs [] ∙ append-nil (reverse xs)) (onto_names xs [] n tt)

names_alone : (xs names : List Item) → resolve [] xs ≡ Some (reverse names) → AreNames names
names_alone xs names e = subst AreNames (reverse-reverse names) (reverse_names (reverse names) (stack_names [] xs (reverse names) tt e))

-- the names that a relative path leads to
module _ (w : whose.Style) (path : List ℕ) (head : Head) (are : AreComponents w path (items_of head)) (parts : IsHead w path head) (relative : IsRelativeTo w path) where
  top : IsRelativeHead w head
  top = relative_head w path head parts relative

  pub inside : (names : List Item) → resolve [] (components_in head.rules head.body.now) ≡ Some (reverse names) → LeadsInside w path (items_of head) names
  inside names e = record {
    relative = relative;
    are = are;
    normal = prefix_items head.prefix.now ++ (start_items head.start ++ names);
    form = resolved_form w path head are parts names e;
    is = after_dot head.rules head.prefix.now head.start names top.prefix top.start (dots_left w path head parts top.prefix) (names_spelled w path head are parts names e);
    alone = names_alone (components_in head.rules head.body.now) names e;
  }

  pub spelled : (names : List Item) → resolve [] (components_in head.rules head.body.now) ≡ Some (reverse names) → AreSpelled (rules_of_style w) names
  spelled names e = subst (λ r. AreSpelled r names) top.rules (names_spelled w path head are parts names e)

pub left_streams : (w : whose.Style) (xs names : List Item) → NameNoStream w xs → resolve [] xs ≡ Some (reverse names) → NameNoStream w names
left_streams style.Unix xs names h e = tt
left_streams style.Windows xs names h e = names_all NamesNoStream tt xs names h e

module _ {X E : Type 0} (P Q : E → Type 0) where
  pub if_err : (r : Result X E) → ((e : E) → P e → Q e) → IfErr r P → IfErr r Q
  if_err (Ok x) f h = tt
  if_err (Err e) f h = f e h

no_dot_first : (xs : List Item) → AreNames xs → without_dot xs ≡ xs
no_dot_first [] n = refl
no_dot_first (Prefix s ∷ xs) n = absurd n
no_dot_first (RootDir ∷ xs) n = absurd n
no_dot_first (CurDir ∷ xs) n = absurd n
no_dot_first (ParentDir ∷ xs) n = absurd n
no_dot_first (Normal s ∷ xs) n = refl

some_same : {xs ys : List Item} → Some xs ≡ Some ys → xs ≡ ys
some_same e = cc

-- what a walk over a path's start and body tells
start_passed : (st : Start) (xs : List Item) → resolve [] (start_items st ++ xs) ≡ resolve [] xs
start_passed Root xs = refl
start_passed Dot xs = refl
start_passed Nothing xs = refl

fit_streams : (w : whose.Style) (xs : List Item) → AllByRecursion (IsFit w) xs → NameNoStream w xs
fit_streams style.Unix xs h = tt
fit_streams style.Windows [] h = tt
fit_streams style.Windows (x ∷ xs) h = (h.0.0, fit_streams style.Windows xs h.1)

fit_free : (w : whose.Style) (xs : List Item) → AllByRecursion (IsFit w) xs → AreFree w xs
fit_free style.Unix xs h = tt
fit_free style.Windows [] h = tt
fit_free style.Windows (x ∷ xs) h = (h.0.1, fit_free style.Windows xs h.1)

later_fit : (w : whose.Style) (st : Start) (xs : List Item) → AllByRecursion (IsFit w) (start_items st ++ xs) → AllByRecursion (IsFit w) xs
later_fit w Root xs h = h.1
later_fit w Dot xs h = h.1
later_fit w Nothing xs h = h

-- where the first components of a path's start and body lead
front_spelled : (r : Rules) (xs ys : List Item) → AreSpelled r (xs ++ ys) → AreSpelled r xs
front_spelled r [] ys h = tt
front_spelled r (x ∷ xs) ys h = (h.0, front_spelled r xs ys h.1)

front_leads : (w : whose.Style) (r : Rules) (st : Start) (body : List ℕ) (front behind names : List Item) → st ≢ Root → dot r ≡ None → start_items st ++ components_in r body ≡ front ++ behind → LeadTo w front names
    → (normal : List Item) × (AreNormalOf front normal × (without_dot normal ≡ names))
front_leads w r Root body front behind names n d j t = absurd (n refl)
front_leads w r Nothing body front behind names n d j t =
    let sp = front_spelled r front behind (subst (AreSpelled r) j (body_spelled r body)) in
    let q = resolve_leads r [] d [] front [] (reverse names) sp tt nowhere t.leads in
    let form = subst (λ z. LeadsTo z (reverse names)) (onto_is front [] ∙ append-nil (reverse front)) (subst (LeadsTo (onto front [])) (append-nil (reverse names)) q) in
    (names, (form, no_dot_first names (names_alone front names t.leads)))
front_leads w r Dot body [] behind names n d j t =
    let none : [] ≡ names = ap reverse (some_same t.leads) ∙ reverse-reverse names in ([], (nowhere, none))
front_leads w r Dot body (x ∷ front) behind names n d j t =
    let later : components_in r body ≡ front ++ behind = cc in
    let first : CurDir ≡ x = cc in
    let sp = front_spelled r front behind (subst (AreSpelled r) later (body_spelled r body)) in
    let e : resolve [] (CurDir ∷ front) ≡ Some (reverse names) = subst (λ z. resolve [] (z ∷ front) ≡ Some (reverse names)) (sym first) t.leads in
    let q = resolve_leads r (CurDir ∷ []) tt [] front (CurDir ∷ []) (reverse names) sp tt start e in
    let form = subst (λ z. LeadsTo z (reverse (CurDir ∷ names))) (onto_is front (CurDir ∷ []) ∙ sym (reverse-append (CurDir ∷ []) front)) (subst (LeadsTo (onto front (CurDir ∷ []))) (sym (reverse-append (CurDir ∷ []) names)) q) in
    (CurDir ∷ names, (subst (λ z. AreNormalOf (z ∷ front) (CurDir ∷ names)) first form, refl))

module _ (w : whose.Style) (path : List ℕ) (head : Head) (are : AreComponents w path (items_of head)) (parts : IsHead w path head) (relative : IsRelativeTo w path) where
  from_body : (P : List Item → Type 0) → P (start_items head.start ++ components_in head.rules head.body.now) → P (items_of head)
  from_body P h = subst (λ z. P (prefix_items z ++ (start_items head.start ++ components_in head.rules head.body.now))) (sym (relative_head w path head parts relative).prefix) h

  leads : (names : List Item) → LeadTo w (start_items head.start ++ components_in head.rules head.body.now) names → resolve [] (components_in head.rules head.body.now) ≡ Some (reverse names)
  leads names walked = sym (start_passed head.start (components_in head.rules head.body.now)) ∙ walked.leads

  pub names_checked : (names : List Item) → LeadTo w (start_items head.start ++ components_in head.rules head.body.now) names → HasNoNul path → AreCheckedNames w path names
  names_checked names walked n =
      let fit = from_body (AllByRecursion (IsFit w)) walked.fit in
      record { no_nul = n; items = items_of head; inside = inside w path head are parts relative names (leads names walked); streams = fit_streams w (items_of head) fit; free = fit_free w (items_of head) fit }

  pub names_spelled_so : (names : List Item) → LeadTo w (start_items head.start ++ components_in head.rules head.body.now) names → AreSpelled (rules_of_style w) names
  names_spelled_so names walked = spelled w path head are parts relative names (leads names walked)

  pub names_no_stream : (names : List Item) → LeadTo w (start_items head.start ++ components_in head.rules head.body.now) names → NameNoStream w names
  names_no_stream names walked = left_streams w (components_in head.rules head.body.now) names (fit_streams w (components_in head.rules head.body.now) (later_fit w head.start (components_in head.rules head.body.now) walked.fit)) (leads names walked)

  has_fault : {index : ℕ} {IsFault : List Item → Item → Type 0} → HasNoNul path → StopsAt w (start_items head.start ++ components_in head.rules head.body.now) index IsFault → HasFault w path index IsFault
  has_fault {index} {IsFault} n s =
      let top = relative_head w path head parts relative in
      let q = front_leads w head.rules head.start head.body.now s.front (s.item ∷ s.behind) s.names top.start (dots_left w path head parts top.prefix) s.joined s.before in
      record {
        no_nul = n;
        relative = relative;
        items = items_of head;
        are = are;
        first = from_body (λ z. IsFirstFault w z index IsFault) (record {
          front = s.front;
          item = s.item;
          behind = s.behind;
          normal = q.0;
          joined = s.joined;
          at = s.at;
          fit = s.before.fit;
          form = q.1.0;
          fault = subst (λ z. IsFault z s.item) (sym q.1.1) s.fault;
        });
      }

  pub fault_found : HasNoNul path → (e : NameError) → IsWalkFault w (start_items head.start ++ components_in head.rules head.body.now) e → IsNameFault w path e
  fault_found n (error.Nul i) h = absurd h
  fault_found n error.Prefix h = absurd h
  fault_found n error.Root h = absurd h
  fault_found n (error.Leaves i) h = has_fault n h
  fault_found n (error.Stream i) h = has_fault n h
  fault_found n (error.Reserved i) h = has_fault n h
  fault_found n error.Memory h = tt

-- a component of a body of either separator is one of a verbatim body
verbatim_plain : (s : List ℕ) → IsPlain rules.Either s → IsPlain rules.Verbatim s
verbatim_plain [] h = All-nil (λ b. separates rules.Verbatim b ≡ false)
verbatim_plain (b ∷ s) h =
    All-cons (λ c. separates rules.Verbatim c ≡ false) b s (right (nat_eq b 0x2F) (nat_eq b 0x5C) (All-head (λ c. separates rules.Either c ≡ false) b s h))
    (verbatim_plain s (All-tail (λ c. separates rules.Either c ≡ false) b s h))
  where
    right : (p q : Bool) → (p || q) ≡ false → q ≡ false
    right true q e = let never : true ≡ false = e in cc
    right false q e = e

verbatim_named : (s : List ℕ) (x : Item) → named rules.Either s ≡ Some x → named rules.Verbatim s ≡ Some x
verbatim_named [] x e = e
verbatim_named (a ∷ []) x e = cases (nat_eq a 0x2E) e
  where
    cases : (v : Bool) → (if v then None else Some (Normal (a ∷ []))) ≡ Some x → (if v then Some CurDir else Some (Normal (a ∷ []))) ≡ Some x
    cases true f = let never : None ≡ Some x = f in cc
    cases false f = f
verbatim_named (a ∷ b ∷ []) x e = e
verbatim_named (a ∷ b ∷ c ∷ s) x e = e

verbatim_spelled : (xs : List Item) → AreSpelled rules.Either xs → AreSpelled rules.Verbatim xs
verbatim_spelled [] h = tt
verbatim_spelled (x ∷ xs) h = (record { plain = verbatim_plain (spelling x) h.0.plain; names = verbatim_named (spelling x) x h.0.names }, verbatim_spelled xs h.1)

pub kind_spelled : (kind : Kind) (xs : List Item) → AreSpelled rules.Either xs → AreSpelled (rules_of kind) xs
kind_spelled (Verbatim n) xs h = verbatim_spelled xs h
kind_spelled (VerbatimUnc s n) xs h = verbatim_spelled xs h
kind_spelled (VerbatimDisk l) xs h = verbatim_spelled xs h
kind_spelled (Device n) xs h = h
kind_spelled (Unc s n) xs h = h
kind_spelled (Disk l) xs h = h

pub spelled_after : (w : whose.Style) (base : List ℕ) (head : Head) → IsHead w base head → (xs : List Item) → AreSpelled (rules_of_style w) xs → AreSpelled head.rules xs
spelled_after style.Unix base head h xs s = subst (λ r. AreSpelled r xs) (sym h.rules) s
spelled_after style.Windows base head (bare_head h) xs s = subst (λ r. AreSpelled r xs) (sym h.rules) s
spelled_after style.Windows base head (prefixed_head h) xs s = subst (λ r. AreSpelled r xs) (sym h.rules) (kind_spelled h.kind xs s)

pub both_spelled : (r : Rules) (xs ys : List Item) → AreSpelled r xs → AreSpelled r ys → AreSpelled r (xs ++ ys)
both_spelled r [] ys h k = k
both_spelled r (x ∷ xs) ys h k = (h.0, both_spelled r xs ys h.1 k)

-- a name without a colon is read as no prefix
no_first_colon : (w : whose.Style) (xs : List Item) → NameNoStream w xs → ¬ (BeginsWithColon w xs)
no_first_colon w [] n b = b
no_first_colon w (Prefix s ∷ xs) n b = b
no_first_colon w (RootDir ∷ xs) n b = b
no_first_colon w (CurDir ∷ xs) n b = b
no_first_colon w (ParentDir ∷ xs) n b = b
no_first_colon style.Unix (Normal s ∷ xs) n b = b
no_first_colon style.Windows (Normal s ∷ xs) n b = let never : true ≡ false = sym b ∙ n.0 in cc

name_no_prefix : (w : whose.Style) (xs : List Item) → AreSpelled (rules_of_style w) xs → NameNoStream w xs → ¬ (BeginsAsPrefix w xs)
name_no_prefix w xs h n = plain_start w xs h (no_first_colon w xs n)

-- the first name of a path that begins with nothing else is followed by a separator or nothing
record IsFirstName (r : Rules) (s t : List ℕ) : Type 0 where
  more : List ℕ
  joined : s ≡ t ++ more
  edge : Edge r more

unnamed : (r : Rules) (f rest : List ℕ) → dot r ≡ None → named r f ≡ None → Edge r rest → rest ≢ [] → start_of r (f ++ rest) ≢ Nothing
unnamed r [] [] d e h n = absurd (n refl)
unnamed r [] (c ∷ rest) d e h n = λ k. let never : Root ≡ Nothing = sym (with_root r c rest h) ∙ k in cc
unnamed r (a ∷ []) [] d e h n = absurd (n refl)
unnamed r (a ∷ []) (c ∷ rest) d e h n = λ k. cases (separates r a) (nat_eq a 0x2E) (separates r c) h e k
  where
    cases : (p q v : Bool) → v ≡ true → (if q then dot r else Some (Normal (a ∷ []))) ≡ None → (if p then Root else (if q && v then Dot else Nothing)) ≡ Nothing → ⊥
    cases true q v f g k = let never : Root ≡ Nothing = k in cc
    cases false true true f g k = let never : Dot ≡ Nothing = k in cc
    cases false true false f g k = let never : false ≡ true = f in cc
    cases false false v f g k = let never : Some (Normal (a ∷ [])) ≡ None = g in cc
unnamed r (a ∷ b ∷ []) rest d e h n = absurd (cases (nat_eq a 0x2E && nat_eq b 0x2E) e)
  where
    cases : (v : Bool) → (if v then Some ParentDir else Some (Normal (a ∷ b ∷ []))) ≡ None → ⊥
    cases true f = let never : Some ParentDir ≡ None = f in cc
    cases false f = let never : Some (Normal (a ∷ b ∷ [])) ≡ None = f in cc
unnamed r (a ∷ b ∷ c ∷ f) rest d e h n = let never : Some (Normal (a ∷ b ∷ c ∷ f)) ≡ None = e in cc

named_as : (r : Rules) (f t : List ℕ) (x : Item) (xs ys : List Item) → named r f ≡ Some x → x ∷ ys ≡ Normal t ∷ xs → f ≡ t
named_as r f t x xs ys g e =
    let same : x ≡ Normal t = cc in sym (named_spelled r f x g) ∙ ap spelling same

first_name : (r : Rules) (s t : List ℕ) (xs : List Item) → dot r ≡ None → start_of r s ≡ Nothing → components_in r s ≡ Normal t ∷ xs → IsFirstName r s t
first_name r s t xs d st e = by (some_field r s).0 (some_field r s).1.0 (some_field r s).1.1
  where
    by : (f rest : List ℕ) → IsField r s f rest → IsFirstName r s t
    by f rest h = cases rest (named r f) refl h.edge h.joined
      where
        cases : (after : List ℕ) (o : Option Item) → named r f ≡ o → Edge r after → s ≡ f ++ after → IsFirstName r s t
        cases [] None g k j =
            let none : [] ≡ Normal t ∷ xs = sym (no_item r f h.plain (sym g)) ∙ ap (components_in r) (sym (append-nil f) ∙ sym j) ∙ e in cc
        cases [] (Some x) g k j =
            let items : x ∷ [] ≡ Normal t ∷ xs = sym (one_item r f x h.plain (sym g)) ∙ ap (components_in r) (sym (append-nil f) ∙ sym j) ∙ e in
            record { more = []; joined = j ∙ ap (λ z. z ++ []) (named_as r f t x xs [] g items); edge = tt }
        cases (c ∷ after) None g k j = absurd (unnamed r f (c ∷ after) d g k (λ n. cc) (ap (start_of r) (sym j) ∙ st))
        cases (c ∷ after) (Some x) g k j =
            let cut : IsCut r s f after = record { separator = c; joined = j; parts = k } in
            let items : x ∷ components_in r after ≡ Normal t ∷ xs = sym (first_item r s f after x (cut, h.plain) (sym g)) ∙ e in
            record { more = c ∷ after; joined = j ∙ ap (λ z. z ++ c ∷ after) (named_as r f t x xs (components_in r after) g items); edge = k }

-- the first component of such a path begins no prefix
first_no_prefix : (s : List ℕ) → ((kind : Kind) (rest : List ℕ) → ¬ (IsPrefixOf s kind rest)) → start_of rules.Either s ≡ Nothing → (xs ys : List Item) → components_in rules.Either s ≡ xs → ¬ (BeginsAsPrefix style.Windows ys) → ¬ (BeginsAsPrefix style.Windows (xs ++ ys))
first_no_prefix s none st [] ys e n b = n b
first_no_prefix s none st (Prefix t ∷ xs) ys e n b = b
first_no_prefix s none st (RootDir ∷ xs) ys e n b = b
first_no_prefix s none st (CurDir ∷ xs) ys e n b = b
first_no_prefix s none st (ParentDir ∷ xs) ys e n b = b
first_no_prefix s none st (Normal t ∷ xs) ys e n b =
    let f = first_name rules.Either s t xs refl st e in none_by_cut s t f.more f.joined (inr f.edge) none b.0 b.1.0 b.1.1

unix_free : (xs : List Item) → ¬ (BeginsAsPrefix style.Unix xs)
unix_free [] b = b
unix_free (Prefix s ∷ xs) b = b
unix_free (RootDir ∷ xs) b = b
unix_free (CurDir ∷ xs) b = b
unix_free (ParentDir ∷ xs) b = b
unix_free (Normal s ∷ xs) b = b

pub may_start : (w : whose.Style) (base : List ℕ) (head : Head) → IsHead w base head → (xs ys : List Item) → xs ≡ components_in head.rules head.body.now → AreSpelled (rules_of_style w) ys → NameNoStream w ys → MayStart w head head.start (xs ++ ys)
may_start style.Unix base head h xs ys e s n = (λ p st. unix_free (xs ++ ys), λ p. refl)
may_start style.Windows base head (prefixed_head h) xs ys e s n = (λ p st. absurd (some_of base head h p), λ p. refl)
may_start style.Windows base head (bare_head h) xs ys e s n = (
  λ p st.
      let start : start_of rules.Either base ≡ Nothing = sym h.start.0 ∙ st in
      let body : head.body.now ≡ base = h.start.1 ∙ ap (λ z. after_start z base) st in
      first_no_prefix base h.none start xs ys (sym (e ∙ ap (λ r. components_in r head.body.now) h.rules ∙ ap (components_in rules.Either) body)) (name_no_prefix style.Windows ys s n),
  λ p. refl,
)

pub whole_start : (w : whose.Style) (base : List ℕ) (head : Head) → IsHead w base head → (xs : List Item) → xs ≡ components_in head.rules head.body.now → MayStart w head head.start xs
whole_start w base head h xs e = subst (MayStart w head head.start) (append-nil xs) (may_start w base head h xs [] e tt (none w))
  where
    none : (v : whose.Style) → NameNoStream v []
    none style.Unix = tt
    none style.Windows = tt

-- a prefix alone after which only `\` separates
pub alone_from : (w : whose.Style) (base : List ℕ) (head : Head) → IsHead w base head → head.rules ≡ rules.Verbatim → head.start ≡ Nothing → IsVerbatimAlone w base
alone_from style.Unix base head h v n = let never : rules.Slash ≡ rules.Verbatim = sym h.rules ∙ v in cc
alone_from style.Windows base head (bare_head h) v n = let never : rules.Either ≡ rules.Verbatim = sym h.rules ∙ v in cc
alone_from style.Windows base head (prefixed_head h) v n =
    let none : h.rest ≡ [] = empty_rest h.kind h.rest (sym h.rules ∙ v) (edge_or_disk base h.kind h.rest h.is) (sym h.start ∙ n) in
    (h.kind, (subst (IsPrefixOf base h.kind) none h.is, sym h.rules ∙ v))

-- names after a path's components, as they are written
pub names_joined : (w : whose.Style) (path joined : List ℕ) (head : Head) → AreComponents w path (items_of head) → (names all : List Item) → all ≡ components_in head.rules head.body.now ++ names
    → IsPathOf w (prefix_items head.prefix.now ++ (start_items head.start ++ all)) joined → IsNamesAfter w path names joined
names_joined w path joined head are names all e answers = record {
  items = items_of head;
  are = are;
  answers =
      let p = prefix_items head.prefix.now in
      let s = start_items head.start in
      let xs = components_in head.rules head.body.now in
      subst (λ z. IsPathOf w z joined) (ap (λ z. p ++ (s ++ z)) e ∙ ap (λ z. p ++ z) (sym (append_assoc s xs names)) ∙ sym (append_assoc p (s ++ xs) names)) answers;
}

-- a joined path, where the base is no prefix alone, and where it is one
pub joined_after : (w : whose.Style) (base path joined : List ℕ) (names : List Item) → IsBase w base → AreCheckedNames w path names → ¬ (IsVerbatimAlone w base) → IsNamesAfter w base names joined → IsCheckedJoin w base path joined
joined_after w base path joined names place checked alone h = record {
  base_items = h.items;
  names = names;
  place = place;
  base_are = h.are;
  checked = checked;
  answers = subst (λ z. IsPathOf w (h.items ++ (z ++ names)) joined) (sym (no_own_root w base h.items alone h.are)) h.answers;
}

pub root_still_open : (w : whose.Style) (base : List ℕ) → IsBase w base → IsVerbatimAlone w base → ¬ (IsVerbatimAlone w (base ++ 0x5C ∷ []))
root_still_open style.Unix base place a = absurd a
root_still_open style.Windows base place a = root_open base place.1.0 a

pub joined_at_root : (w : whose.Style) (base root path joined : List ℕ) (names : List Item) → root ≡ base ++ 0x5C ∷ [] → IsBase w base → AreCheckedNames w path names → IsVerbatimAlone w base → IsNamesAfter w root names joined → IsCheckedJoin w base path joined
joined_at_root style.Unix base root path joined names e place checked a h = absurd a
joined_at_root style.Windows base root path joined names e place checked a h =
    let items : h.items ≡ Prefix base ∷ RootDir ∷ [] = one_components style.Windows root h.items (Prefix base ∷ RootDir ∷ []) h.are (subst (λ z. AreComponents style.Windows z (Prefix base ∷ RootDir ∷ [])) (sym e) (root_items base place.1.0 a)) in
    record {
      base_items = Prefix base ∷ [];
      names = names;
      place = place;
      base_are = alone_items base a;
      checked = checked;
      answers = subst (λ z. IsPathOf style.Windows (Prefix base ∷ (z ++ names)) joined) (sym (root_of_alone base a)) (subst (λ z. IsPathOf style.Windows (z ++ names) joined) items h.answers);
    }

pub is_below : (w : whose.Style) (base path joined : List ℕ) → IsCheckedJoin w base path joined → IsBelowBase w base joined
is_below w base path joined h = record { base_items = h.base_items; names = h.names; base_are = h.base_are; are = h.answers.0; alone = h.checked.inside.alone }
