-- The components of a path, of its normal form and of its clean form.
use Rattle.std.proofs.Common.{◌≡◌, ◌≢◌, ◌⊎◌, inl, inr, ◌==◌, ℕ, Bool, true, false, if◌then◌else◌, List, [], ◌∷◌, ◌++◌, Some, None, length, map, reverse, Result, Ok, Err, refl, sym, ap, ◌∙◌, subst, arith, append_assoc}
use Rattle.std.specs.Prelude.{IfOk}
use Rattle.std.proofs.lemmas.Bool.Decides.{nat_tests}
use Rattle.std.proofs.lemmas.List.{reverse-append, reverse-reverse}
use Rattle.path_rules.specs.declared.rules.Rules.{Rules}
use Rattle.path_rules.specs.declared.rules.Rules.TheVariants as rules
use Rattle.path_rules.specs.declared.rules.Style as whose
use Rattle.path_rules.specs.declared.rules.Style.TheVariants as style
use Rattle.path_rules.specs.declared.head.Start.{Start}
use Rattle.path_rules.specs.declared.head.Start.TheVariants.{Root, Dot, Nothing}
use Rattle.path_rules.specs.declared.head.Head.{Head}
use Rattle.path_rules.specs.Component.{Item, Prefix, RootDir, CurDir, ParentDir, Normal, dot, components_in}
use Rattle.path_rules.specs.Separators.{Edge}
use Rattle.path_rules.specs.Prefix.{Kind, Disk, rules_of, begins_verbatim}
use Rattle.path_rules.specs.Components.{implied_root, root_of, after_root, AreComponents}
use Rattle.path_rules.proofs.lemmas.Edges.{edge_or_disk}
use Rattle.path_rules.specs.Heads.{prefix_items, start_items, items_of}
use Rattle.path_rules.specs.HeadParts.{IsHead, bare_head, prefixed_head}
use Rattle.path_building.specs.Normal.{LeadsTo, nowhere, prefix, bare_root, root, start, AreNormalOf}
use Rattle.path_building.specs.Normalized.{AreVerbatim, BeginsWithColon, IsShielded, IsNormalWritten, HasNoForm}
use Rattle.path_building.specs.Cleaned as clean
use Rattle.path_building.specs.Cleaned.{CleansTo, or_dot, spelled, IsCleanWritten}
use Rattle.path_building.specs.Written.{IsPathOf}
use Rattle.path_building.specs.Spelled.{resolve, cleaned, cleaned_start, AreSpelled}
use Rattle.path_rules.proofs.lemmas.AfterPrefix.{some_of}
use Rattle.path_rules.proofs.lemmas.OneList.{one_components}
use Rattle.path_rules.proofs.lemmas.Parents.{no_dot}
use Rattle.path_building.specs.Beginning.{BeginsOddly}
use Rattle.path_building.proofs.lemmas.Beginnings.{shown_plain, written_even, spelled_even}
use Rattle.path_building.proofs.lemmas.Resolving.{onto, onto_is, from_reverse, IsTopForm, Grounded, resolve_leads, resolve_none, resolve_spelled, Stays, cleaned_cleans, cleaned_spelled}
use Rattle.path_building.proofs.lemmas.Spelling.{body_spelled}
use Rattle.path_building.proofs.lemmas.Spellings.{items_spelled}

reverse_items : (p : List ℕ) (st : Start) (xs : List Item) → reverse (prefix_items p ++ (start_items st ++ xs)) ≡ reverse xs ++ reverse (prefix_items p ++ start_items st)
reverse_items p st xs = ap reverse (sym (append_assoc (prefix_items p) (start_items st) xs)) ∙ reverse-append (prefix_items p ++ start_items st) xs

top_leads : (p : List ℕ) (st : Start) → (p ≢ [] → st ≢ Dot) → LeadsTo (reverse (prefix_items p ++ start_items st)) (reverse (prefix_items p ++ start_items st))
top_leads [] Root n = bare_root
top_leads [] Dot n = start
top_leads [] Nothing n = nowhere
top_leads (b ∷ p) Root n = root
top_leads (b ∷ p) Dot n = absurd (n (λ e. cc) refl)
top_leads (b ∷ p) Nothing n = prefix

top_form : (p : List ℕ) (st : Start) → IsTopForm (reverse (prefix_items p ++ start_items st))
top_form [] Root = tt
top_form [] Dot = tt
top_form [] Nothing = tt
top_form (b ∷ p) Root = tt
top_form (b ∷ p) Dot = tt
top_form (b ∷ p) Nothing = tt

top_grounded : (r : Rules) (p : List ℕ) (st : Start) → (p ≡ [] → dot r ≡ None) → Grounded r (reverse (prefix_items p ++ start_items st))
top_grounded r [] Root g = tt
top_grounded r [] Dot g = tt
top_grounded r [] Nothing g = g refl
top_grounded r (b ∷ p) Root g = tt
top_grounded r (b ∷ p) Dot g = tt
top_grounded r (b ∷ p) Nothing g = tt

pub no_dot_after : (w : whose.Style) (path : List ℕ) (head : Head) → IsHead w path head → head.prefix.now ≢ [] → head.start ≢ Dot
no_dot_after style.Unix path head h n = absurd (n h.prefix)
no_dot_after style.Windows path head (bare_head h) n = absurd (n h.prefix)
no_dot_after style.Windows path head (prefixed_head h) n = λ e. no_dot h.kind h.rest (sym h.start ∙ e)

pub dots_left : (w : whose.Style) (path : List ℕ) (head : Head) → IsHead w path head → head.prefix.now ≡ [] → dot head.rules ≡ None
dots_left style.Unix path head h e = ap dot h.rules
dots_left style.Windows path head (bare_head h) e = ap dot h.rules
dots_left style.Windows path head (prefixed_head h) e = absurd (some_of path head h e)

-- a path whose prefix begins with `\\?\`
pub verbatim_yes : (p : List ℕ) (xs : List Item) → begins_verbatim p ≡ true → AreVerbatim (prefix_items p ++ xs)
verbatim_yes [] xs e = cc
verbatim_yes (b ∷ p) xs e = e

pub verbatim_no : (r : Rules) (p : List ℕ) (st : Start) (xs : List Item) → begins_verbatim p ≡ false → AreSpelled r xs → ¬ (AreVerbatim (prefix_items p ++ (start_items st ++ xs)))
verbatim_no r [] Root xs e sp h = h
verbatim_no r [] Dot xs e sp h = h
verbatim_no r [] Nothing [] e sp h = h
verbatim_no r [] Nothing (Prefix s ∷ xs) e sp h = let never : None ≡ Some (Prefix s) = sp.0.names in cc
verbatim_no r [] Nothing (RootDir ∷ xs) e sp h = h
verbatim_no r [] Nothing (CurDir ∷ xs) e sp h = h
verbatim_no r [] Nothing (ParentDir ∷ xs) e sp h = h
verbatim_no r [] Nothing (Normal s ∷ xs) e sp h = h
verbatim_no r (b ∷ p) st xs e sp h = let never : true ≡ false = sym h ∙ e in cc

begins_none : (w : whose.Style) (p : List ℕ) (st : Start) (xs : List Item) → p ≢ [] → ¬ (BeginsWithColon w (prefix_items p ++ (start_items st ++ xs)))
begins_none w [] st xs n h = n refl
begins_none w (b ∷ p) st xs n h = h

pub shielded_after : (w : whose.Style) (p : List ℕ) (st : Start) (xs : List Item) → p ≢ [] → IsShielded w (prefix_items p ++ (start_items st ++ xs)) (prefix_items p ++ (start_items st ++ xs))
shielded_after w p st xs n = inr (begins_none w p st xs n, refl)

pub clean_after : (w : whose.Style) (p : List ℕ) (st : Start) (xs : List Item) → p ≢ [] → st ≢ Dot → IsShielded w (or_dot (map spelled (prefix_items p) ++ (cleaned_start st ++ xs))) (map spelled (prefix_items p) ++ (start_items st ++ xs))
clean_after w [] st xs n m = absurd (n refl)
clean_after w (b ∷ p) Root xs n m = inr (λ h. h, refl)
clean_after w (b ∷ p) Dot xs n m = absurd (m refl)
clean_after w (b ∷ p) Nothing xs n m = inr (λ h. h, refl)

pub clean_bare : (w : whose.Style) (p : List ℕ) (st new : Start) (xs : List Item) → p ≡ [] → (st ≡ Root → ⊥) → IsShielded w (or_dot xs) (start_items new ++ xs) → IsShielded w (or_dot (map spelled (prefix_items p) ++ (cleaned_start st ++ xs))) (map spelled (prefix_items p) ++ (start_items new ++ xs))
clean_bare w [] Root new xs e n h = absurd (n refl)
clean_bare w [] Dot new xs e n h = h
clean_bare w [] Nothing new xs e n h = h
clean_bare w (b ∷ p) st new xs e n h = cc

some_item : (xs : List Item) → xs ≢ [] → or_dot xs ≡ xs
some_item [] n = absurd (n refl)
some_item (x ∷ xs) n = refl

pub dot_alone : (w : whose.Style) (xs : List Item) → xs ≡ [] → IsShielded w (or_dot xs) (CurDir ∷ xs)
dot_alone w [] e = inr (λ h. h, refl)
dot_alone w (x ∷ xs) e = cc

pub or_dot_some : (w : whose.Style) (xs shown : List Item) → xs ≢ [] → IsShielded w xs shown → IsShielded w (or_dot xs) shown
or_dot_some w xs shown n h = subst (λ z. IsShielded w z shown) (sym (some_item xs n)) h

-- the start of a clean path
clean_top : (p : List ℕ) (st : Start) → (p ≢ [] → st ≢ Dot) → CleansTo (reverse (prefix_items p ++ start_items st)) (reverse (prefix_items p ++ cleaned_start st))
clean_top [] Root n = clean.bare_root
clean_top [] Dot n = clean.here clean.nothing
clean_top [] Nothing n = clean.nothing
clean_top (b ∷ p) Root n = clean.root
clean_top (b ∷ p) Dot n = absurd (n (λ e. cc) refl)
clean_top (b ∷ p) Nothing n = clean.prefix

clean_stays : (rooted : Bool) (p : List ℕ) (st : Start) → (rooted ≡ true → st ≡ Root) → (st ≡ Root → rooted ≡ true) → Stays rooted (reverse (prefix_items p ++ cleaned_start st))
clean_stays true [] Root down back = ([], refl)
clean_stays true (b ∷ p) Root down back = (Prefix (b ∷ p) ∷ [], refl)
clean_stays true p Dot down back = let never : Dot ≡ Root = down refl in cc
clean_stays true p Nothing down back = let never : Nothing ≡ Root = down refl in cc
clean_stays false p Root down back = let never : false ≡ true = back refl in cc
clean_stays false [] Dot down back = tt
clean_stays false (b ∷ p) Dot down back = tt
clean_stays false [] Nothing down back = tt
clean_stays false (b ∷ p) Nothing down back = tt

reverse_clean : (p : List ℕ) (st : Start) (xs : List Item) → reverse (prefix_items p ++ (cleaned_start st ++ xs)) ≡ reverse xs ++ reverse (prefix_items p ++ cleaned_start st)
reverse_clean p st xs = ap reverse (sym (append_assoc (prefix_items p) (cleaned_start st) xs)) ∙ reverse-append (prefix_items p ++ cleaned_start st) xs

pub if_ok : {X E : Type 0} (P Q : X → Type 0) (r : Result X E) → ((x : X) → P x → Q x) → IfOk r P → IfOk r Q
if_ok P Q (Ok x) f h = f x h
if_ok P Q (Err e) f h = h

-- what `is_empty` tells of the components
pub map_some : {X : Type 0} (f : X → Item) (xs : List X) (b : Bool) → b ≡ (length xs == 0) → b ≡ false → map f xs ≢ []
map_some f [] b e g h = let never : true ≡ false = sym e ∙ g in cc
map_some f (x ∷ xs) b e g h = cc

pub map_none : {X : Type 0} (f : X → Item) (xs : List X) (b : Bool) → b ≡ (length xs == 0) → b ≡ true → map f xs ≡ []
map_none f [] b e g = refl
map_none f (x ∷ xs) b e g = let n : length (x ∷ xs) ≡ 0 = grind (arith, nat_tests) in absurd (omega arith)

pub some_bytes : (xs : List ℕ) (b : Bool) → b ≡ (length xs == 0) → b ≡ false → xs ≢ []
some_bytes [] b e g h = let never : true ≡ false = sym e ∙ g in cc
some_bytes (x ∷ xs) b e g h = cc

-- nothing follows a prefix that begins with `\\?\` and has no root
pub empty_rest : (kind : Kind) (rest : List ℕ) → rules_of kind ≡ rules.Verbatim → Edge rules.Either rest ⊎ ((letter : ℕ) × (kind ≡ Disk letter)) → root_of kind rest ≡ Nothing → rest ≡ []
empty_rest kind [] v e n = refl
empty_rest kind (c ∷ rest) v (inl e) n = let never : Root ≡ Nothing = sym (ap (λ z. if z then Root else implied_root kind) e) ∙ n in cc
empty_rest kind (c ∷ rest) v (inr d) n = let never : rules.Either ≡ rules.Verbatim = sym (ap rules_of d.1) ∙ v in cc

pub nothing_after : (w : whose.Style) (path : List ℕ) (head : Head) → IsHead w path head → head.rules ≡ rules.Verbatim → head.start ≡ Nothing → components_in head.rules head.body.now ≡ []
nothing_after style.Unix path head h v n = let never : rules.Slash ≡ rules.Verbatim = sym h.rules ∙ v in cc
nothing_after style.Windows path head (bare_head h) v n = let never : rules.Either ≡ rules.Verbatim = sym h.rules ∙ v in cc
nothing_after style.Windows path head (prefixed_head h) v n =
    let none : h.rest ≡ [] = empty_rest h.kind h.rest (sym h.rules ∙ v) (edge_or_disk path h.kind h.rest h.is) (sym h.start ∙ n) in
    ap (components_in head.rules) (h.body ∙ ap after_root none)

module _ (w : whose.Style) (path : List ℕ) (head : Head) (are : AreComponents w path (items_of head)) (h : IsHead w path head) where
  -- a path that is kept
  pub kept_some : begins_verbatim head.prefix.now ≡ true → head.prefix.now ≢ []
  kept_some e n = let never : false ≡ true = sym (ap begins_verbatim n) ∙ e in cc

  pub kept_normal : (names : List Item) (answer : List ℕ) → begins_verbatim head.prefix.now ≡ true → names ≡ components_in head.rules head.body.now → IsPathOf w (prefix_items head.prefix.now ++ (start_items head.start ++ names)) answer → ¬ (BeginsOddly w path) → IsNormalWritten w path answer
  kept_normal names answer e same answers even = record {
    items = items_of head;
    normal = items_of head;
    shown = items_of head;
    are = are;
    form = inl (verbatim_yes head.prefix.now (start_items head.start ++ components_in head.rules head.body.now) e, refl);
    shielded = shielded_after w head.prefix.now head.start (components_in head.rules head.body.now) (kept_some e);
    answers = subst (λ z. IsPathOf w (prefix_items head.prefix.now ++ (start_items head.start ++ z)) answer) same answers;
    even = written_even w path head h even answer head.start names (subst (AreSpelled head.rules) (sym same) (body_spelled head.rules head.body.now)) answers (begins_none w head.prefix.now head.start names (kept_some e));
  }

  pub kept_clean : (names : List Item) (answer : List ℕ) → begins_verbatim head.prefix.now ≡ true → names ≡ components_in head.rules head.body.now → IsPathOf w (prefix_items head.prefix.now ++ (start_items head.start ++ names)) answer → ¬ (BeginsOddly w path) → IsCleanWritten w path answer
  kept_clean names answer e same answers even = record {
    items = items_of head;
    clean = items_of head;
    shown = items_of head;
    are = are;
    form = inl (verbatim_yes head.prefix.now (start_items head.start ++ components_in head.rules head.body.now) e, refl);
    shielded = shielded_after w head.prefix.now head.start (components_in head.rules head.body.now) (kept_some e);
    answers = subst (λ z. IsPathOf w (prefix_items head.prefix.now ++ (start_items head.start ++ z)) answer) same answers;
    even = written_even w path head h even answer head.start names (subst (AreSpelled head.rules) (sym same) (body_spelled head.rules head.body.now)) answers (begins_none w head.prefix.now head.start names (kept_some e));
  }

  pub other_verbatim : begins_verbatim head.prefix.now ≡ false → ¬ (AreVerbatim (items_of head))
  other_verbatim e = verbatim_no head.rules head.prefix.now head.start (components_in head.rules head.body.now) e (body_spelled head.rules head.body.now)

  -- a path that is resolved
  pub resolved_form : (names : List Item) → resolve [] (components_in head.rules head.body.now) ≡ Some (reverse names) → AreNormalOf (items_of head) (prefix_items head.prefix.now ++ (start_items head.start ++ names))
  resolved_form names e =
      let r = head.rules in
      let p = head.prefix.now in
      let st = head.start in
      let xs = components_in r head.body.now in
      let rb = reverse (prefix_items p ++ start_items st) in
      let q = resolve_leads r rb (top_grounded r p st (dots_left w path head h)) [] xs rb (reverse names) (body_spelled r head.body.now) tt (top_leads p st (no_dot_after w path head h)) e in
      subst (λ z. LeadsTo z (reverse (prefix_items p ++ (start_items st ++ names)))) (onto_is xs rb ∙ sym (reverse_items p st xs)) (subst (LeadsTo (onto xs rb)) (sym (reverse_items p st names)) q)

  pub resolved_normal : (names : List Item) (st : Start) (answer : List ℕ) → begins_verbatim head.prefix.now ≡ false → resolve [] (components_in head.rules head.body.now) ≡ Some (reverse names) → IsShielded w (prefix_items head.prefix.now ++ (start_items head.start ++ names)) (prefix_items head.prefix.now ++ (start_items st ++ names))
      → IsPathOf w (prefix_items head.prefix.now ++ (start_items st ++ names)) answer → AreSpelled head.rules names → ¬ (BeginsOddly w path) → IsNormalWritten w path answer
  resolved_normal names st answer v e shield answers sp even = record {
    items = items_of head;
    normal = prefix_items head.prefix.now ++ (start_items head.start ++ names);
    shown = prefix_items head.prefix.now ++ (start_items st ++ names);
    are = are;
    form = inr (other_verbatim v, resolved_form names e);
    shielded = shield;
    answers = answers;
    even = written_even w path head h even answer st names sp answers (shown_plain w _ _ shield);
  }

  pub leads_nowhere : resolve [] (components_in head.rules head.body.now) ≡ None → (items normal : List Item) → AreComponents w path items → ¬ (AreNormalOf items normal)
  leads_nowhere e items normal a k =
      let r = head.rules in
      let p = head.prefix.now in
      let st = head.start in
      let xs = components_in r head.body.now in
      let rb = reverse (prefix_items p ++ start_items st) in
      let same : items ≡ items_of head = one_components w path items (items_of head) a are in
      resolve_none r rb (top_grounded r p st (dots_left w path head h)) (top_form p st) [] xs rb (reverse normal) (body_spelled r head.body.now) tt (top_leads p st (no_dot_after w path head h)) e
      (subst (λ z. LeadsTo z (reverse normal)) (reverse_items p st xs ∙ sym (onto_is xs rb)) (subst (λ z. AreNormalOf z normal) same k))

  pub resolved_none : begins_verbatim head.prefix.now ≡ false → resolve [] (components_in head.rules head.body.now) ≡ None → HasNoForm w path
  resolved_none v e items normal a f =
      let same : items ≡ items_of head = one_components w path items (items_of head) a are in
      elim f [ inl k ↦ other_verbatim v (subst AreVerbatim same k.0) | inr k ↦ leads_nowhere e items normal a k.1 ]

  pub names_spelled : (names : List Item) → resolve [] (components_in head.rules head.body.now) ≡ Some (reverse names) → AreSpelled head.rules names
  names_spelled names e =
      let r = head.rules in
      let rb = reverse (prefix_items head.prefix.now ++ start_items head.start) in
      from_reverse r names (resolve_spelled r rb [] (components_in r head.body.now) (reverse names) (body_spelled r head.body.now) tt e)

  pub names_none : (names : List Item) → resolve [] (components_in head.rules head.body.now) ≡ Some (reverse names) → components_in head.rules head.body.now ≡ [] → names ≡ []
  names_none names e n =
      let now : Some [] ≡ Some (reverse names) = ap (resolve []) (sym n) ∙ e in
      let none : [] ≡ reverse names = cc in sym (reverse-reverse names) ∙ ap reverse (sym none)

  -- a path that is cleaned
  module _ (rooted : Bool) (down : rooted ≡ true → head.start ≡ Root) (back : head.start ≡ Root → rooted ≡ true) (names : List Item) (e : reverse names ≡ cleaned rooted [] (components_in head.rules head.body.now)) where
    pub cleaned_leads : CleansTo (reverse (items_of head)) (reverse (prefix_items head.prefix.now ++ (cleaned_start head.start ++ names)))
    cleaned_leads =
        let r = head.rules in
        let p = head.prefix.now in
        let st = head.start in
        let xs = components_in r head.body.now in
        let done = reverse (prefix_items p ++ start_items st) in
        let rb = reverse (prefix_items p ++ cleaned_start st) in
        let q = cleaned_cleans r rb rooted (clean_stays rooted p st down back) [] xs done (body_spelled r head.body.now) tt (clean_top p st (no_dot_after w path head h)) in
        subst (λ z. CleansTo z (reverse (prefix_items p ++ (cleaned_start st ++ names)))) (onto_is xs done ∙ sym (reverse_items p st xs)) (subst (CleansTo (onto xs done)) (sym (ap (λ z. z ++ rb) e) ∙ sym (reverse_clean p st names)) q)

    pub cleaned_names_spelled : AreSpelled head.rules names
    cleaned_names_spelled = from_reverse head.rules names (subst (AreSpelled head.rules) (sym e) (cleaned_spelled head.rules [] rooted [] (components_in head.rules head.body.now) (body_spelled head.rules head.body.now) tt))

    pub cleaned_clean : (st : Start) (answer : List ℕ) → begins_verbatim head.prefix.now ≡ false → IsShielded w (or_dot (map spelled (prefix_items head.prefix.now) ++ (cleaned_start head.start ++ names))) (map spelled (prefix_items head.prefix.now) ++ (start_items st ++ names))
        → IsPathOf w (map spelled (prefix_items head.prefix.now) ++ (start_items st ++ names)) answer → ¬ (BeginsOddly w path) → IsCleanWritten w path answer
    cleaned_clean st answer v shield answers even = record {
      items = items_of head;
      clean = or_dot (map spelled (prefix_items head.prefix.now) ++ (cleaned_start head.start ++ names));
      shown = map spelled (prefix_items head.prefix.now) ++ (start_items st ++ names);
      are = are;
      form = inr (other_verbatim v, (prefix_items head.prefix.now ++ (cleaned_start head.start ++ names), (cleaned_leads, ap or_dot (sym (items_spelled head.rules head.prefix.now head.start names cleaned_names_spelled)))));
      shielded = shield;
      answers = answers;
      even = spelled_even w path head h even answer st names v cleaned_names_spelled answers (shown_plain w _ _ shield);
    }

    pub cleaned_none : components_in head.rules head.body.now ≡ [] → names ≡ []
    cleaned_none n =
        let none : reverse names ≡ [] = e ∙ ap (cleaned rooted []) n in sym (reverse-reverse names) ∙ ap reverse none
