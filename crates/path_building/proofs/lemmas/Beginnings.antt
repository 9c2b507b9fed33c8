-- Paths that begin oddly, and those that are written from components, which don't.
use Rattle.std.proofs.Common.{◌≡◌, ◌≢◌, ◌↔◌, inl, inr, ℕ, nat_eq, Bool, true, false, ◌&&◌, ◌||◌, if◌then◌else◌, IsTrue, Option, Some, None, List, [], ◌∷◌, ◌++◌, map, refl, sym, ap, ◌∙◌, subst}
use Rattle.std.proofs.lemmas.List.Elements.{All-head, All-cons, All-nil}
use Rattle.path_rules.specs.declared.rules.Rules.TheVariants as rules
use Rattle.path_rules.specs.declared.rules.Style as whose
use Rattle.path_rules.specs.declared.rules.Style.TheVariants as style
use Rattle.path_rules.specs.declared.head.Start.{Start}
use Rattle.path_rules.specs.declared.head.Start.TheVariants.{Root, Dot, Nothing}
use Rattle.path_rules.specs.declared.head.Head.{Head}
use Rattle.path_rules.specs.Separators.{separates, IsPlain, IsField, Edge}
use Rattle.path_rules.specs.Component.{Item, Prefix, RootDir, CurDir, ParentDir, Normal, components_in, named}
use Rattle.path_rules.specs.Components.{AreWindowsComponents, prefixed, bare, start_of, after_start}
use Rattle.path_rules.specs.Prefix.{Kind, Verbatim, VerbatimUnc, VerbatimDisk, Device, Unc, Disk, DriveLead, NoLead, is_letter, lead_of, IsPrefixOf, rules_of, begins_verbatim}
use Rattle.path_rules.specs.Heads.{prefix_items, start_items}
use Rattle.path_rules.specs.HeadParts.{IsHead, bare_head, prefixed_head}
use Rattle.path_rules.specs.Parsed.{IsFound, FoundOr}
use Rattle.path_rules.specs.Root.{BeginsWithSeparator}
use Rattle.path_rules.specs.StyleRules.{rules_of_style}
use Rattle.path_building.specs.Beginning.{has_colon, BeginsTwice, FirstHasColon, IsOddKind, BareBeginsOddly, BeginsOddly}
use Rattle.path_building.specs.Cleaned.{DifferInSeparators, one_spelling, spelled}
use Rattle.path_building.specs.Normalized.{BeginsWithColon, IsShielded}
use Rattle.path_building.specs.Spelled.{AreSpelled, BeginsAsPrefix, MayStart, IsShieldedStart}
use Rattle.path_building.specs.Written.{BeginsAsObject, spelling, more_names, joined_names, written, NamesAShare, IsPathOf}
use Rattle.path_rules.proofs.lemmas.AfterPrefix.{some_of}
use Rattle.path_rules.proofs.lemmas.Fields.{one_field}
use Rattle.path_rules.proofs.lemmas.OneList.{one_prefix}
use Rattle.path_rules.proofs.lemmas.Parsings.{either_found}
use Rattle.path_building.proofs.lemmas.AsWritten.{prefix_alone}
use Rattle.path_building.proofs.lemmas.Joins.{verbatim_begins}
use Rattle.path_building.proofs.lemmas.Objects.{sep_is}
use Rattle.path_building.proofs.lemmas.Resolving.{no_prefix, no_root}
use Rattle.path_building.proofs.lemmas.Spelling.{body_spelled}
use Rattle.path_building.proofs.lemmas.Spellings.{sep_same, field_same, turned, prefix_same, prefix_spelled, spelling_differs, not_verbatim}
use Rattle.path_building.proofs.lemmas.Written.{no_lead, second_lead}

-- what the tests say
pub odd_found : (w : whose.Style) (path : List ℕ) (found : Option Kind) (rest : List ℕ) → ∥ IsFound w path found rest ∥₁ → FoundOr (BareBeginsOddly w) (λ kind more. IsOddKind kind) found rest ↔ BeginsOddly w path
odd_found w path found rest m = either_found w path found rest (BareBeginsOddly w) (λ kind more. IsOddKind kind) m

pub colon_found : (path name rest : List ℕ) (b : Bool) → IsField rules.Either path name rest → b ≡ has_colon name → IsTrue b ↔ FirstHasColon path
colon_found path name rest b h e = (
  λ t. record { name = name; rest = rest; first = h; colon = sym e ∙ t },
  λ f. e ∙ ap has_colon (one_field rules.Either path name f.name rest f.rest h f.first).0 ∙ f.colon,
)

-- a name without a colon is read as no prefix
no_letter : (b : ℕ) (s : List ℕ) → has_colon (b ∷ s) ≡ false → nat_eq b 0x3A ≡ false
no_letter b s e = left (nat_eq b 0x3A) (has_colon s) e
  where
    left : (p q : Bool) → (p || q) ≡ false → p ≡ false
    left true q f = f
    left false q f = refl

later_colons : (b : ℕ) (s : List ℕ) → has_colon (b ∷ s) ≡ false → has_colon s ≡ false
later_colons b s e = right (nat_eq b 0x3A) (has_colon s) e
  where
    right : (p q : Bool) → (p || q) ≡ false → q ≡ false
    right true q f = let never : true ≡ false = f in cc
    right false q f = f

name_lead : (s : List ℕ) → IsPlain rules.Either s → has_colon s ≡ false → lead_of s ≡ NoLead
name_lead [] h e = refl
name_lead (a ∷ []) h e = refl
name_lead (a ∷ b ∷ s) h e =
    let second : nat_eq b 0x3A ≡ false = no_letter b s (later_colons a (b ∷ s) e) in
    second_lead a b s (All-head (λ c. separates rules.Either c ≡ false) a (b ∷ s) h)
    ∙ ap (λ v. if is_letter a && v then DriveLead a s else NoLead) second ∙ ap (λ v. if v then DriveLead a s else NoLead) (no (is_letter a))
  where
    no : (p : Bool) → (p && false) ≡ false
    no true = refl
    no false = refl

no_colon : (v : Bool) → ¬ (v ≡ true) → v ≡ false
no_colon true n = absurd (n refl)
no_colon false n = refl

pub plain_start : (w : whose.Style) (xs : List Item) → AreSpelled (rules_of_style w) xs → ¬ (BeginsWithColon w xs) → ¬ (BeginsAsPrefix w xs)
plain_start w [] h n b = b
plain_start w (Prefix s ∷ xs) h n b = b
plain_start w (RootDir ∷ xs) h n b = b
plain_start w (CurDir ∷ xs) h n b = b
plain_start w (ParentDir ∷ xs) h n b = b
plain_start style.Unix (Normal s ∷ xs) h n b = b
plain_start style.Windows (Normal s ∷ xs) h n b = no_lead s (name_lead s h.0.plain (no_colon (has_colon s) n)) b.0 b.1.0 b.1.1

pub may_start_shielded : (w : whose.Style) (path : List ℕ) (head : Head) (st : Start) (names : List Item) → IsHead w path head → AreSpelled head.rules names → IsShieldedStart w head st names → MayStart w head st names
may_start_shielded w path head st names h sp m = (λ p s. plain_start w names (subst (λ r. AreSpelled r names) (own w h p) sp) (m.0 p s), m.1)
  where
    own : (v : whose.Style) → IsHead v path head → head.prefix.now ≡ [] → head.rules ≡ rules_of_style v
    own style.Unix k p = k.rules
    own style.Windows (bare_head k) p = k.rules
    own style.Windows (prefixed_head k) p = absurd (some_of path head k p)

-- with a `.` before it, no first name has a colon
pub shown_plain : (w : whose.Style) (items shown : List Item) → IsShielded w items shown → ¬ (BeginsWithColon w shown)
shown_plain w items shown (inl h) = λ b. subst (BeginsWithColon w) h.1 b
shown_plain w items shown (inr h) = subst (λ z. ¬ (BeginsWithColon w z)) (sym h.1) h.0

-- the spelling of separators makes no difference
first_same : (s u : List ℕ) → DifferInSeparators s u → BeginsWithSeparator rules.Either s → BeginsWithSeparator rules.Either u
first_same [] u d t = absurd t
first_same (a ∷ s) [] d t = absurd d
first_same (a ∷ s) (b ∷ u) d t = sym (sep_same a b d.0) ∙ t

twice_same : (s u : List ℕ) → DifferInSeparators s u → BeginsTwice s → BeginsTwice u
twice_same [] u d t = absurd t
twice_same (a ∷ s) [] d t = absurd d
twice_same (a ∷ s) (b ∷ u) d t = (sym (sep_same a b d.0) ∙ t.0, first_same s u d.1 t.1)

bare_same : (s u : List ℕ) → DifferInSeparators s u → BareBeginsOddly style.Windows s → BareBeginsOddly style.Windows u
bare_same s u d (inl t) = inl (twice_same s u d t)
bare_same s u d (inr f) =
    let q = field_same s u f.name f.rest d f.first in inr (record { name = f.name; rest = q.0; first = q.1.0; colon = f.colon })

pub odd_same : (s u : List ℕ) → DifferInSeparators s u → begins_verbatim s ≡ false → begins_verbatim u ≡ false → BeginsOddly style.Windows s → BeginsOddly style.Windows u
odd_same s u d v w (inl o) =
    let q = prefix_same s u d v w o.0 o.1.0 o.1.1.0 in inl (o.0, (q.0, (q.1.0, o.1.1.1)))
odd_same s u d v w (inr o) =
    inr ((λ kind rest p. let q = prefix_same u s (turned s u d) w v kind rest p in o.0 kind q.0 q.1.0), bare_same s u d o.1)

-- none begins with `\\?\`
odd_either : (kind : Kind) → IsOddKind kind → rules_of kind ≡ rules.Verbatim → ⊥
odd_either (Verbatim n) o v = o
odd_either (VerbatimUnc s n) o v = o
odd_either (VerbatimDisk l) o v = o
odd_either (Device n) o v = let never : rules.Either ≡ rules.Verbatim = v in cc
odd_either (Unc s n) o v = let never : rules.Either ≡ rules.Verbatim = v in cc
odd_either (Disk l) o v = o

pub odd_plain : (s : List ℕ) → BeginsOddly style.Windows s → begins_verbatim s ≡ false
odd_plain s o = cases (begins_verbatim s) refl
  where
    cases : (v : Bool) → begins_verbatim s ≡ v → begins_verbatim s ≡ false
    cases false e = e
    cases true e =
        let p = (verbatim_begins s).0 e in
        absurd (elim o [
          | inl q ↦ odd_either p.0 (subst IsOddKind (one_prefix s q.0 p.0 q.1.0 p.1.0 q.1.1.0 p.1.1.0).0 q.1.1.1) p.1.1.1
          | inr q ↦ q.0 p.0 p.1.0 p.1.1.0
        ])

-- in one spelling it begins oddly too, and is in one spelling
pub odd_spelled : (w : whose.Style) (s : List ℕ) → BeginsOddly w s → BeginsOddly w (one_spelling s)
odd_spelled style.Unix s o = absurd o
odd_spelled style.Windows s o = odd_same s (one_spelling s) (spelling_differs s) (odd_plain s o) (not_verbatim s) o

-- a path with a prefix that isn't odd
pub prefixed_even : (a q : List ℕ) (xs : List Item) (kind : Kind) → AreWindowsComponents a (Prefix q ∷ xs) → IsPrefixOf q kind [] → ¬ (IsOddKind kind) → ¬ (BeginsOddly style.Windows a)
prefixed_even a q xs kind (prefixed h) p n o =
    let same : h.raw ≡ q = cc in
    let alone = subst (λ z. IsPrefixOf z h.kind []) same (prefix_alone a h.raw h.kind h.rest h.joined h.prefix) in
    elim o [
      | inl k ↦ n (subst IsOddKind ((one_prefix a k.0 h.kind k.1.0 h.rest k.1.1.0 h.prefix).0 ∙ (one_prefix q h.kind kind [] [] alone p).0) k.1.1.1)
      | inr k ↦ k.0 h.kind h.rest h.prefix
    ]
prefixed_even a q xs kind (bare h) p n o = no_first (start_of rules.Either a) (components_in rules.Either (after_start (start_of rules.Either a) a)) (body_spelled rules.Either (after_start (start_of rules.Either a) a)) (sym h.are)
  where
    no_first : (st : Start) (ys : List Item) → AreSpelled rules.Either ys → start_items st ++ ys ≡ Prefix q ∷ xs → ⊥
    no_first Root ys sp e = cc
    no_first Dot ys sp e = cc
    no_first Nothing [] sp e = cc
    no_first Nothing (y ∷ ys) sp e = let same : y ≡ Prefix q = cc in no_prefix rules.Either q (subst (λ z. AreSpelled rules.Either (z ∷ ys)) same sp).0

-- a path without a prefix, by its bytes
dot_plain : IsPlain rules.Either (0x2E ∷ [])
dot_plain = All-cons (λ b. separates rules.Either b ≡ false) 0x2E [] refl (All-nil (λ b. separates rules.Either b ≡ false))

dots_plain : IsPlain rules.Either (0x2E ∷ 0x2E ∷ [])
dots_plain = All-cons (λ b. separates rules.Either b ≡ false) 0x2E (0x2E ∷ []) refl dot_plain

more_edge : (xs : List Item) → Edge rules.Either (more_names 0x5C xs)
more_edge [] = tt
more_edge (x ∷ xs) = refl

-- the name before the first separator is this one, which has no colon
field_even : (a f rest : List ℕ) → IsField rules.Either a f rest → has_colon f ≡ false → ¬ (FirstHasColon a)
field_even a f rest h n k =
    let never : true ≡ false = sym k.colon ∙ ap has_colon (one_field rules.Either a k.name f k.rest rest k.first h).0 ∙ n in cc

at_separator : (s : List ℕ) → ¬ (FirstHasColon (0x5C ∷ s))
at_separator s = field_even (0x5C ∷ s) [] (0x5C ∷ s) (record { joined = refl; plain = All-nil (λ b. separates rules.Either b ≡ false); edge = refl }) refl

not_first : (s more : List ℕ) → IsPlain rules.Either s → s ≢ [] → ¬ (BeginsWithSeparator rules.Either (s ++ more))
not_first [] more h n b = n refl
not_first (c ∷ s) more h n b =
    let never : true ≡ false = sym b ∙ All-head (λ z. separates rules.Either z ≡ false) c s h in cc

no_twice : (a : List ℕ) → ¬ (BeginsWithSeparator rules.Either a) → ¬ (BeginsTwice a)
no_twice [] n t = t
no_twice (b ∷ a) n t = n t.0

name_even : (s : List ℕ) (xs : List Item) → IsPlain rules.Either s → s ≢ [] → has_colon s ≡ false → ¬ (BareBeginsOddly style.Windows (s ++ more_names 0x5C xs))
name_even s xs h n c (inl t) = no_twice (s ++ more_names 0x5C xs) (not_first s (more_names 0x5C xs) h n) t
name_even s xs h n c (inr f) = field_even (s ++ more_names 0x5C xs) s (more_names 0x5C xs) (record { joined = refl; plain = h; edge = more_edge xs }) c f

some_name : (s : List ℕ) (x : Item) → named rules.Either s ≡ Some x → s ≢ []
some_name [] x e n = let never : None ≡ Some x = e in cc
some_name (b ∷ s) x e n = cc

names_first : (xs : List Item) → AreSpelled rules.Either xs → ¬ (BeginsWithSeparator rules.Either (joined_names 0x5C xs))
names_first [] sp b = b
names_first (x ∷ xs) sp b = not_first (spelling x) (more_names 0x5C xs) sp.0.plain (some_name (spelling x) x sp.0.names) b

start_even : (st : Start) (names : List Item) → AreSpelled rules.Either names → ¬ (BeginsWithColon style.Windows (start_items st ++ names)) → ¬ (BareBeginsOddly style.Windows (written 0x5C (start_items st ++ names)))
start_even Root names sp n (inl t) = names_first names sp t.1
start_even Root names sp n (inr f) = at_separator (joined_names 0x5C names) f
start_even Dot names sp n o = name_even (0x2E ∷ []) names dot_plain (λ e. cc) refl o
start_even Nothing [] sp n (inl t) = t
start_even Nothing [] sp n (inr f) = field_even [] [] [] (record { joined = refl; plain = All-nil (λ b. separates rules.Either b ≡ false); edge = tt }) refl f
start_even Nothing (Prefix s ∷ xs) sp n o = no_prefix rules.Either s sp.0
start_even Nothing (RootDir ∷ xs) sp n o = no_root rules.Either sp.0
start_even Nothing (CurDir ∷ xs) sp n o = name_even (0x2E ∷ []) xs dot_plain (λ e. cc) refl o
start_even Nothing (ParentDir ∷ xs) sp n o = name_even (0x2E ∷ 0x2E ∷ []) xs dots_plain (λ e. cc) refl o
start_even Nothing (Normal s ∷ xs) sp n o = name_even s xs sp.0.plain (some_name s (Normal s) sp.0.names) (no_colon (has_colon s) n) o

no_share : (st : Start) (names : List Item) → AreSpelled rules.Either names → ¬ (NamesAShare style.Windows (start_items st ++ names))
no_share Root names sp h = h
no_share Dot names sp h = h
no_share Nothing [] sp h = h
no_share Nothing (Prefix s ∷ xs) sp h = no_prefix rules.Either s sp.0
no_share Nothing (RootDir ∷ xs) sp h = h
no_share Nothing (CurDir ∷ xs) sp h = h
no_share Nothing (ParentDir ∷ xs) sp h = h
no_share Nothing (Normal s ∷ xs) sp h = h

dot_even : (s : List ℕ) → ¬ (BareBeginsOddly style.Windows (0x5C ∷ 0x2E ∷ s))
dot_even s (inl t) = let never : false ≡ true = t.1 in cc
dot_even s (inr f) = at_separator (0x2E ∷ s) f

pub bare_even : (a : List ℕ) (st : Start) (names : List Item) → IsPathOf style.Windows (start_items st ++ names) a → AreSpelled rules.Either names → ¬ (BeginsWithColon style.Windows (start_items st ++ names)) → ¬ (BeginsOddly style.Windows a)
bare_even a st names p sp n o = by p.0 o
  where
    bytes : ¬ (BareBeginsOddly style.Windows a)
    bytes b = elim p.1 [
      | inl k ↦ dot_even (written 0x5C (start_items st ++ names)) (subst (BareBeginsOddly style.Windows) k.1 b)
      | inr k ↦ elim k.1 [
        | inl s ↦ no_share st names sp s.0
        | inr s ↦ start_even st names sp n (subst (BareBeginsOddly style.Windows) s.1 b)
      ]
    ]

    no_first : (raw : List ℕ) (ys : List Item) (v : Start) (zs : List Item) → AreSpelled rules.Either zs → start_items v ++ zs ≡ Prefix raw ∷ ys → ⊥
    no_first raw ys Root zs q e = cc
    no_first raw ys Dot zs q e = cc
    no_first raw ys Nothing [] q e = cc
    no_first raw ys Nothing (z ∷ zs) q e = let same : z ≡ Prefix raw = cc in no_prefix rules.Either raw (subst (λ x. AreSpelled rules.Either (x ∷ zs)) same q).0

    by : AreWindowsComponents a (start_items st ++ names) → BeginsOddly style.Windows a → ⊥
    by (prefixed h) k = no_first h.raw _ st names sp h.are
    by (bare h) (inl k) = h.none k.0 k.1.0 k.1.1.0
    by (bare h) (inr k) = bytes k.1

-- what is written after the prefix of a path that doesn't begin oddly doesn't either
module _ (w : whose.Style) (path : List ℕ) (head : Head) (parts : IsHead w path head) (even : ¬ (BeginsOddly w path)) where
  pub written_even : (a : List ℕ) (st : Start) (names : List Item) → AreSpelled head.rules names → IsPathOf w (prefix_items head.prefix.now ++ (start_items st ++ names)) a → ¬ (BeginsWithColon w (prefix_items head.prefix.now ++ (start_items st ++ names))) → ¬ (BeginsOddly w a)
  written_even a st names sp p n = by w parts even p n
    where
      by : (v : whose.Style) → IsHead v path head → ¬ (BeginsOddly v path) → IsPathOf v (prefix_items head.prefix.now ++ (start_items st ++ names)) a → ¬ (BeginsWithColon v (prefix_items head.prefix.now ++ (start_items st ++ names))) → ¬ (BeginsOddly v a)
      by style.Unix h e q m = λ o. o
      by style.Windows (bare_head h) e q m =
          bare_even a st names (subst (λ z. IsPathOf style.Windows (prefix_items z ++ (start_items st ++ names)) a) h.prefix q) (subst (λ z. AreSpelled z names) h.rules sp)
          (subst (λ z. ¬ (BeginsWithColon style.Windows (prefix_items z ++ (start_items st ++ names)))) h.prefix m)
      by style.Windows (prefixed_head h) e q m =
          from_some head.prefix.now (some_of path head h) (prefix_alone path head.prefix.now h.kind h.rest h.joined h.is) q.0
        where
          from_some : (p : List ℕ) → p ≢ [] → IsPrefixOf p h.kind [] → AreWindowsComponents a (prefix_items p ++ (start_items st ++ names)) → ¬ (BeginsOddly style.Windows a)
          from_some [] some alone are = absurd (some refl)
          from_some (b ∷ p) some alone are = prefixed_even a (b ∷ p) (start_items st ++ names) h.kind are alone (λ o. e (inl (h.kind, (h.rest, (h.is, o)))))

  pub spelled_even : (a : List ℕ) (st : Start) (names : List Item) → begins_verbatim head.prefix.now ≡ false → AreSpelled head.rules names → IsPathOf w (map spelled (prefix_items head.prefix.now) ++ (start_items st ++ names)) a → ¬ (BeginsWithColon w (map spelled (prefix_items head.prefix.now) ++ (start_items st ++ names))) → ¬ (BeginsOddly w a)
  spelled_even a st names other sp p n = by w parts even p n
    where
      by : (v : whose.Style) → IsHead v path head → ¬ (BeginsOddly v path) → IsPathOf v (map spelled (prefix_items head.prefix.now) ++ (start_items st ++ names)) a → ¬ (BeginsWithColon v (map spelled (prefix_items head.prefix.now) ++ (start_items st ++ names))) → ¬ (BeginsOddly v a)
      by style.Unix h e q m = λ o. o
      by style.Windows (bare_head h) e q m =
          bare_even a st names (subst (λ z. IsPathOf style.Windows (map spelled (prefix_items z) ++ (start_items st ++ names)) a) h.prefix q) (subst (λ z. AreSpelled z names) h.rules sp)
          (subst (λ z. ¬ (BeginsWithColon style.Windows (map spelled (prefix_items z) ++ (start_items st ++ names)))) h.prefix m)
      by style.Windows (prefixed_head h) e q m =
          from_some head.prefix.now (some_of path head h) other (prefix_alone path head.prefix.now h.kind h.rest h.joined h.is) q.0
        where
          from_some : (p : List ℕ) → p ≢ [] → begins_verbatim p ≡ false → IsPrefixOf p h.kind [] → AreWindowsComponents a (map spelled (prefix_items p) ++ (start_items st ++ names)) → ¬ (BeginsOddly style.Windows a)
          from_some [] some v alone are = absurd (some refl)
          from_some (b ∷ p) some v alone are = prefixed_even a (one_spelling (b ∷ p)) (start_items st ++ names) h.kind are (prefix_spelled (b ∷ p) h.kind v alone) (λ o. e (inl (h.kind, (h.rest, (h.is, o)))))

-- a path that begins oddly doesn't begin as one of the object manager
pub odd_no_object : (s : List ℕ) → BeginsOddly style.Windows s → ¬ (BeginsAsObject s)
odd_no_object [] o b = b
odd_no_object (a ∷ []) o b = b
odd_no_object (a ∷ c ∷ []) o b = b
odd_no_object (a ∷ c ∷ d ∷ s) o b = elim o [
  | inl k ↦ no_lead (a ∷ 0x3F ∷ d ∷ s) (sep_is a (d ∷ s) b.0) k.0 k.1.0 (subst (λ z. IsPrefixOf (a ∷ z ∷ d ∷ s) k.0 k.1.0) b.1.0 k.1.1.0)
  | inr k ↦ elim k.1 [
    | inl t ↦ let never : false ≡ true = sym (ap (separates rules.Either) b.1.0) ∙ t.1 in cc
    | inr f ↦ at_first a (c ∷ d ∷ s) b.0 f
  ]
]
  where
    at_first : (x : ℕ) (t : List ℕ) → separates rules.Either x ≡ true → ¬ (FirstHasColon (x ∷ t))
    at_first x t e = field_even (x ∷ t) [] (x ∷ t) (record { joined = refl; plain = All-nil (λ z. separates rules.Either z ≡ false); edge = e }) refl
