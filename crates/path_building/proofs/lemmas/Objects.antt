-- A path that is written from its parts has these components, and doesn't begin as one of the object manager.
use Rattle.std.proofs.Common.{◌≡◌, ◌≢◌, ◌⊎◌, inl, inr, ℕ, Bool, true, false, ◌&&◌, if◌then◌else◌, nat_eq, List, [], ◌∷◌, ◌++◌, refl, sym, ap, ◌∙◌, subst, arith, eqb-true}
use Rattle.std.proofs.lemmas.Bool.{eq-eqb}
use Rattle.std.proofs.lemmas.List.Elements.{All-cons, All-nil}
use Rattle.path_rules.specs.declared.rules.Rules.{Rules}
use Rattle.path_rules.specs.declared.rules.Rules.TheVariants as rules
use Rattle.path_rules.specs.declared.rules.Style as whose
use Rattle.path_rules.specs.declared.rules.Style.TheVariants as style
use Rattle.path_rules.specs.declared.head.Start.{Start}
use Rattle.path_rules.specs.declared.head.Start.TheVariants.{Root, Dot, Nothing}
use Rattle.path_rules.specs.declared.head.Head.{Head}
use Rattle.path_rules.specs.Separators.{separates, IsPlain, IsCut, Edge}
use Rattle.path_rules.specs.StyleRules.{main_separator}
use Rattle.path_rules.specs.Component.{Item, Prefix, RootDir, CurDir, ParentDir, Normal, components_in}
use Rattle.path_rules.specs.Components.{AreComponents, AreWindowsComponents, prefixed, bare}
use Rattle.path_rules.specs.Prefix.{DriveLead, NoLead, is_letter, double_lead, lead_of}
use Rattle.path_rules.specs.Heads.{prefix_items, start_items}
use Rattle.path_rules.specs.HeadParts.{IsHead, bare_head, prefixed_head}
use Rattle.path_building.specs.Written.{joined_names, written, object_dir, BeginsAsObject, NamesAnObject, IsWrittenOut, IsPathOf}
use Rattle.path_building.specs.Spelled.{after_bytes, MayStart, DoublesRoot, AreSpelled, ObjectNext}
use Rattle.path_rules.proofs.lemmas.AfterPrefix.{some_of}
use Rattle.path_rules.proofs.lemmas.Bodies.{one_item, first_item, no_first_item}
use Rattle.path_rules.proofs.lemmas.Starts.{with_root, items_at}
use Rattle.path_building.proofs.lemmas.AsWritten.{doubles_alone, as_written}
use Rattle.path_building.proofs.lemmas.Resolving.{no_root}
use Rattle.path_building.proofs.lemmas.Spelling.{spelled_again}
use Rattle.path_building.proofs.lemmas.Written.{no_lead, not_doubled, written_is}

-- whether a name is `??`
is_dir : (s : List ℕ) → (s ≡ object_dir) ⊎ (s ≢ object_dir)
is_dir [] = inr (λ e. cc)
is_dir (a ∷ []) = inr (λ e. cc)
is_dir (a ∷ b ∷ []) = cases (nat_eq a 0x3F) (nat_eq b 0x3F) refl refl
  where
    cases : (p q : Bool) → nat_eq a 0x3F ≡ p → nat_eq b 0x3F ≡ q → (a ∷ b ∷ [] ≡ object_dir) ⊎ (a ∷ b ∷ [] ≢ object_dir)
    cases true true e f = inl (ap (λ z. z ∷ b ∷ []) (eqb-true a 0x3F e) ∙ ap (λ z. 0x3F ∷ z ∷ []) (eqb-true b 0x3F f))
    cases true false e f = inr (λ h. let same : b ≡ 0x3F = cc in let never : false ≡ true = sym f ∙ eq-eqb b 0x3F same in cc)
    cases false q e f = inr (λ h. let same : a ≡ 0x3F = cc in let never : false ≡ true = sym e ∙ eq-eqb a 0x3F same in cc)
is_dir (a ∷ b ∷ c ∷ s) = inr (λ e. cc)

is_next : (w : whose.Style) (p : List ℕ) (st : Start) (names : List Item) → ObjectNext w p st names ⊎ ¬ (ObjectNext w p st names)
is_next style.Unix p st names = inr (λ h. h)
is_next style.Windows (b ∷ p) st names = inr (λ h. h)
is_next style.Windows [] Dot names = inr (λ h. h)
is_next style.Windows [] Nothing names = inr (λ h. h)
is_next style.Windows [] Root [] = inr (λ h. h)
is_next style.Windows [] Root (Prefix s ∷ xs) = inr (λ h. h)
is_next style.Windows [] Root (RootDir ∷ xs) = inr (λ h. h)
is_next style.Windows [] Root (CurDir ∷ xs) = inr (λ h. h)
is_next style.Windows [] Root (ParentDir ∷ xs) = inr (λ h. h)
is_next style.Windows [] Root (Normal s ∷ xs) = is_dir s

-- components name an object only so
only_next : (w : whose.Style) (r : Rules) (p : List ℕ) (st : Start) (names : List Item) → AreSpelled r names → NamesAnObject w (prefix_items p ++ (start_items st ++ names)) → ObjectNext w p st names
only_next style.Unix r p st names sp h = absurd h
only_next style.Windows r (b ∷ p) st names sp h = absurd h
only_next style.Windows r [] Dot names sp h = absurd h
only_next style.Windows r [] Root [] sp h = absurd h
only_next style.Windows r [] Root (Prefix s ∷ xs) sp h = absurd h
only_next style.Windows r [] Root (RootDir ∷ xs) sp h = absurd h
only_next style.Windows r [] Root (CurDir ∷ xs) sp h = absurd h
only_next style.Windows r [] Root (ParentDir ∷ xs) sp h = absurd h
only_next style.Windows r [] Root (Normal s ∷ xs) sp h = h
only_next style.Windows r [] Nothing [] sp h = absurd h
only_next style.Windows r [] Nothing (Prefix s ∷ xs) sp h = absurd h
only_next style.Windows r [] Nothing (RootDir ∷ xs) sp h = absurd (no_root r sp.0)
only_next style.Windows r [] Nothing (CurDir ∷ xs) sp h = absurd h
only_next style.Windows r [] Nothing (ParentDir ∷ xs) sp h = absurd h
only_next style.Windows r [] Nothing (Normal s ∷ xs) sp h = absurd h

-- after `\.` the root and the names are read again
dot_plain : IsPlain rules.Either (0x2E ∷ [])
dot_plain = All-cons (λ b. separates rules.Either b ≡ false) 0x2E [] refl (All-nil (λ b. separates rules.Either b ≡ false))

apart_items : (names : List Item) → AreSpelled rules.Either names → AreWindowsComponents (0x5C ∷ 0x2E ∷ 0x5C ∷ joined_names 0x5C names) (RootDir ∷ names)
apart_items names sp =
    let after = joined_names 0x5C names in
    let body = 0x2E ∷ 0x5C ∷ after in
    let cut : IsCut rules.Either body (0x2E ∷ []) after = record { separator = 0x5C; joined = refl; parts = refl } in
    let items = no_first_item rules.Either body (0x2E ∷ []) after (cut, dot_plain) refl ∙ spelled_again rules.Either 0x5C refl names sp in
    bare (record {
      none = no_lead (0x5C ∷ body) refl;
      are = sym (items_at rules.Either (0x5C ∷ body) Root (with_root rules.Either 0x5C body refl) ∙ ap (λ z. RootDir ∷ z) items);
    })

next_path : (w : whose.Style) (p : List ℕ) (st : Start) (names : List Item) → AreSpelled rules.Either names → ObjectNext w p st names → IsPathOf w (prefix_items p ++ (start_items st ++ names)) ((main_separator w ∷ 0x2E ∷ []) ++ after_bytes (main_separator w) st false names)
next_path style.Unix p st names sp h = absurd h
next_path style.Windows (b ∷ p) st names sp h = absurd h
next_path style.Windows [] Dot names sp h = absurd h
next_path style.Windows [] Nothing names sp h = absurd h
next_path style.Windows [] Root [] sp h = absurd h
next_path style.Windows [] Root (Prefix s ∷ xs) sp h = absurd h
next_path style.Windows [] Root (RootDir ∷ xs) sp h = absurd h
next_path style.Windows [] Root (CurDir ∷ xs) sp h = absurd h
next_path style.Windows [] Root (ParentDir ∷ xs) sp h = absurd h
next_path style.Windows [] Root (Normal s ∷ xs) sp h = (apart_items (Normal s ∷ xs) sp, inl (h, refl))

-- an object comes next on Windows alone, without a prefix
pub no_prefix_before : (w : whose.Style) (p : List ℕ) (st : Start) (names : List Item) → ObjectNext w p st names → (w ≡ style.Windows) × (p ≡ [])
no_prefix_before style.Unix p st names h = absurd h
no_prefix_before style.Windows (b ∷ p) st names h = absurd h
no_prefix_before style.Windows [] st names h = (refl, refl)

bare_parts : (w : whose.Style) (path : List ℕ) (head : Head) (doubled : Bool) → w ≡ style.Windows → head.prefix.now ≡ [] → IsHead w path head → DoublesRoot w path doubled → (head.rules ≡ rules.Either) × (doubled ≡ false)
bare_parts style.Unix path head doubled n e h d = let never : style.Unix ≡ style.Windows = n in cc
bare_parts style.Windows path head doubled n e (bare_head h) d = (h.rules, not_doubled doubled (λ z. let k = d.0 z in h.none k.0 k.1.0 k.1.1.0))
bare_parts style.Windows path head doubled n e (prefixed_head h) d = absurd (some_of path head h e)

-- what is written of a prefix, a start and names, with `\\.` before it where an object comes next
module _ (w : whose.Style) (r : Rules) (p : List ℕ) (st : Start) (doubled : Bool) (names : List Item) (sp : AreSpelled r names) where
  abbrev all : List Item
  all = prefix_items p ++ (start_items st ++ names)

  abbrev bytes_of : Bool → List ℕ
  bytes_of v = after_bytes (main_separator w) st v names

  pub path_by : (before : List ℕ) → (ObjectNext w p st names → (r ≡ rules.Either) × (doubled ≡ false)) → AreComponents w (p ++ bytes_of doubled) all → IsWrittenOut w all (p ++ bytes_of doubled)
      → (¬ (ObjectNext w p st names) → before ≡ p) → (ObjectNext w p st names → before ≡ main_separator w ∷ 0x2E ∷ []) → IsPathOf w all (before ++ bytes_of doubled)
  path_by before only are out kept apart = elim (is_next w p st names) as (λ z. IsPathOf w all (before ++ bytes_of doubled)) [
    | inl o ↦
        subst (λ z. IsPathOf w all (before ++ bytes_of z)) (sym (only o).1)
        (subst (λ z. IsPathOf w all (z ++ bytes_of false)) (sym (apart o)) (next_path w p st names (subst (λ q. AreSpelled q names) (only o).0 sp) o))
    | inr n ↦ subst (λ z. IsPathOf w all (z ++ bytes_of doubled)) (sym (kept n)) (are, inr (λ o. n (only_next w r p st names sp o), out))
  ]

pub path_of : (w : whose.Style) (path : List ℕ) (head : Head) (st : Start) (doubled : Bool) (names : List Item) (before : List ℕ) → AreSpelled head.rules names → (head.rules ≡ rules.Verbatim → head.start ≡ Nothing → names ≡ []) → MayStart w head st names → DoublesRoot w path doubled → IsHead w path head
    → (¬ (ObjectNext w head.prefix.now st names) → before ≡ head.prefix.now) → (ObjectNext w head.prefix.now st names → before ≡ main_separator w ∷ 0x2E ∷ [])
    → IsPathOf w (prefix_items head.prefix.now ++ (start_items st ++ names)) (before ++ after_bytes (main_separator w) st doubled names)
path_of w path head st doubled names before sp none may dbl h kept apart =
    path_by w head.rules head.prefix.now st doubled names sp before
    (λ o. let only = no_prefix_before w head.prefix.now st names o in bare_parts w path head doubled only.0 only.1 h dbl)
    (written_is path head st doubled names sp none w may dbl h) (as_written w head.rules head.prefix.now st doubled names sp (doubles_alone w path head doubled h dbl)) kept apart

-- a path that begins as one of the object manager has the name `??` after its root
pub sep_is : (a : ℕ) (s : List ℕ) → separates rules.Either a ≡ true → lead_of (a ∷ 0x3F ∷ s) ≡ NoLead
sep_is a s e = cases (is_letter a && nat_eq 0x3F 0x3A) (and_no (is_letter a)) (separates rules.Either a) refl
  where
    and_no : (p : Bool) → (p && false) ≡ false
    and_no true = refl
    and_no false = refl

    cases : (q : Bool) → q ≡ false → (p : Bool) → separates rules.Either a ≡ p → (if p && false then double_lead a 0x3F s else (if q then DriveLead a s else NoLead)) ≡ NoLead
    cases true f p g = let never : true ≡ false = f in cc
    cases false f true g = refl
    cases false f false g = refl

mark_plain : IsPlain rules.Either object_dir
mark_plain = All-cons (λ b. separates rules.Either b ≡ false) 0x3F (0x3F ∷ []) refl (All-cons (λ b. separates rules.Either b ≡ false) 0x3F [] refl (All-nil (λ b. separates rules.Either b ≡ false)))

object_items : (s : List ℕ) → Edge rules.Either s → (xs : List Item) × (components_in rules.Either (0x3F ∷ 0x3F ∷ s) ≡ Normal object_dir ∷ xs)
object_items [] e = ([], one_item rules.Either object_dir (Normal object_dir) mark_plain refl)
object_items (c ∷ s) e =
    let cut : IsCut rules.Either (0x3F ∷ 0x3F ∷ c ∷ s) object_dir s = record { separator = c; joined = refl; parts = e } in
    (components_in rules.Either s, first_item rules.Either (0x3F ∷ 0x3F ∷ c ∷ s) object_dir s (Normal object_dir) (cut, mark_plain) refl)

module _ (a : ℕ) (s : List ℕ) (sep : separates rules.Either a ≡ true) (edge : Edge rules.Either s) where
  named_there : (items : List Item) → AreWindowsComponents (a ∷ 0x3F ∷ 0x3F ∷ s) items → NamesAnObject style.Windows items
  named_there items (prefixed h) = absurd (no_lead (a ∷ 0x3F ∷ 0x3F ∷ s) (sep_is a (0x3F ∷ s) sep) h.kind h.rest h.prefix)
  named_there items (bare h) =
      let body = 0x3F ∷ 0x3F ∷ s in
      let q = object_items s edge in
      let is : items ≡ RootDir ∷ Normal object_dir ∷ q.0 = h.are ∙ items_at rules.Either (a ∷ body) Root (with_root rules.Either a body sep) ∙ ap (λ z. RootDir ∷ z) q.1 in
      subst (NamesAnObject style.Windows) (sym is) refl

names_one : (items : List Item) (path : List ℕ) → AreWindowsComponents path items → BeginsAsObject path → NamesAnObject style.Windows items
names_one items [] are o = absurd o
names_one items (a ∷ []) are o = absurd o
names_one items (a ∷ b ∷ []) are o = absurd o
names_one items (a ∷ b ∷ c ∷ s) are o =
    named_there a s o.0 o.1.1.1 items (subst (λ z. AreWindowsComponents (a ∷ 0x3F ∷ z ∷ s) items) o.1.1.0 (subst (λ z. AreWindowsComponents (a ∷ z ∷ c ∷ s) items) o.1.0 are))

no_dot_first : (t : List ℕ) → ¬ (BeginsAsObject (0x5C ∷ 0x2E ∷ t))
no_dot_first [] o = o
no_dot_first (c ∷ t) o = let never : 0x2E ≡ 0x3F = o.1.0 in omega (arith, never)

pub no_object : (items : List Item) (path : List ℕ) → IsPathOf style.Windows items path → ¬ (BeginsAsObject path)
no_object items path h o = elim h.1 [
  | inl k ↦ no_dot_first (written 0x5C items) (subst BeginsAsObject k.1 o)
  | inr k ↦ k.0 (names_one items path h.0 o)
]
