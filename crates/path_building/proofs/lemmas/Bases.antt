-- What is known of a base: where its first NUL is, and the root of a prefix alone.
use Rattle.std.proofs.Common.{◌≡◌, ◌≢◌, ◌⊎◌, inl, inr, ℕ, zero, suc, ◌+◌, ◌<◌, Bool, true, false, IsTrue, ◌↔◌, ◌&&◌, nat_eq, if◌then◌else◌, List, [], ◌∷◌, ◌++◌, length, map, take, drop, get_or, take-append-drop, refl, sym, ap, ◌∙◌, subst, arith, append-nil, Option, None, Some, MatchOption}
use Rattle.std.specs.Char.{to_ascii_lowercase}
use Rattle.std.specs.List.{AllByRecursion}
use Rattle.std.proofs.lemmas.Bool.{eq-eqb, eqb-true}
use Rattle.std.proofs.lemmas.List.{take_all, drop_more, length-take-le}
use Rattle.memchr.specs.Find.{NoneBefore, Nowhere, Passes, is_byte}
use Rattle.path_rules.specs.declared.rules.Rules.TheVariants as rules
use Rattle.path_rules.specs.declared.rules.Style as whose
use Rattle.path_rules.specs.declared.rules.Style.TheVariants as style
use Rattle.path_rules.specs.declared.rules.Rules.{Rules}
use Rattle.path_rules.specs.declared.head.Start.{Start}
use Rattle.path_rules.specs.declared.head.Start.TheVariants.{Root, Dot, Nothing}
use Rattle.path_rules.specs.Separators.{separates}
use Rattle.path_rules.specs.Component.{Item, Prefix, RootDir, CurDir, ParentDir, Normal, components_in}
use Rattle.path_rules.specs.Components.{AreComponents, prefixed, bare, root_of, after_root, start_of, after_start}
use Rattle.path_rules.specs.Heads.{prefix_items, start_items, items_of}
use Rattle.path_rules.specs.Prefix.{Kind, Verbatim, VerbatimUnc, VerbatimDisk, Device, Unc, Disk, Lead, VerbatimLead, DeviceLead, DoubleLead, DriveLead, NoLead, VerbatimLeads, UncLead, DiskLead, NameLead, is_letter, lead_of, verbatim_lead, IsVerbatimBy, IsPrefixBy, IsPrefixOf, WithPrefix, rules_of, begins_verbatim}
use Rattle.path_rules.proofs.lemmas.Edges.{edge_or_disk}
use Rattle.path_rules.proofs.lemmas.OneList.{one_prefix, one_components}
use Rattle.path_rules.proofs.lemmas.Simple.{begun}
use Rattle.path_building.specs.Normalized.{AreVerbatim}
use Rattle.path_building.specs.Spelled.{AreSpelled}
use Rattle.path_building.specs.Base.{unc, HasNoNul, IsFirstNul, NamesNoObject, IsOpenKind, BeginsOpen, LacksPart, IsVerbatimAlone, IsFree, AreFree, HasFreeNames, IsBase, own_root}
use Rattle.std.proofs.Math.Logic.{∥∥₁_elim}
use Rattle.std.proofs.Props.{props}
use Rattle.path_rules.specs.declared.head.Head.{Head}
use Rattle.path_rules.specs.Parsed.{IsFound, FoundWith, FoundOr}
use Rattle.path_rules.proofs.lemmas.Alike.{and_then}
use Rattle.path_rules.proofs.lemmas.Parsings.{with_found, either_found}
use Rattle.path_building.proofs.lemmas.AsWritten.{prefix_alone}
use Rattle.path_building.proofs.lemmas.Forms.{empty_rest}
use Rattle.path_building.proofs.lemmas.Moves.{Fits, prefix_moves}
use Rattle.path_building.proofs.lemmas.Resolving.{no_prefix}
use Rattle.path_building.proofs.lemmas.Spelling.{body_spelled}

-- where no byte before an index is NUL
none_from : (t : List ℕ) (n : ℕ) → ((k : ℕ) → k < n → ¬ (is_byte 0 (get_or t k 0) ≡ true)) → AllByRecursion (λ b. b ≢ 0) (take n t)
none_from [] zero h = tt
none_from (x ∷ t) (suc n) h = (λ e. h 0 (omega arith) (eq-eqb x 0 e), none_from t n (λ k lt. h (suc k) (omega arith)))
none_from t n h = tt

pub nul_found : (s : List ℕ) (found : Option ℕ) → MatchOption found (Nowhere (Passes (is_byte 0) s) 0 (length s)) (λ k. NoneBefore (Passes (is_byte 0) s) 0 (length s) k × Passes (is_byte 0) s k)
    → MatchOption found (HasNoNul s) (λ index. IsFirstNul s index)
nul_found s None h = subst HasNoNul (take_all (length s) s (omega arith)) (none_from s (length s) (λ k lt. h k (omega arith) lt))
nul_found s (Some i) h = record {
  before = take i s;
  after = drop (i + 1) s;
  joined = sym (take-append-drop i s) ∙ ap (λ x. take i s ++ x) (drop_more s i 0 h.0.high ∙ ap (λ x. x ∷ drop (i + 1) s) (eqb-true _ _ h.1));
  none_before = none_from s i (λ k lt. h.0.before k (omega arith) lt);
  index_is = sym (length-take-le i s (omega (arith, h.0.high)));
}

-- a prefix after which only `\` separates begins with `\\?\`, and none other does
begins_by : (s u : List ℕ) → lead_of s ≡ VerbatimLead u → begins_verbatim s ≡ true
begins_by [] u e = let never : NoLead ≡ VerbatimLead u = e in cc
begins_by (a ∷ []) u e = let never : NoLead ≡ VerbatimLead u = e in cc
begins_by (a ∷ b ∷ []) u e = absurd (cases (separates rules.Either a && separates rules.Either b) (is_letter a && nat_eq b 0x3A) e)
  where
    cases : (p q : Bool) → (if p then DoubleLead [] else (if q then DriveLead a [] else NoLead)) ≡ VerbatimLead u → ⊥
    cases true q f = let never : DoubleLead [] ≡ VerbatimLead u = f in cc
    cases false true f = let never : DriveLead a [] ≡ VerbatimLead u = f in cc
    cases false false f = let never : NoLead ≡ VerbatimLead u = f in cc
begins_by (a ∷ b ∷ c ∷ []) u e = absurd (cases (separates rules.Either a && separates rules.Either b) (is_letter a && nat_eq b 0x3A) e)
  where
    cases : (p q : Bool) → (if p then DoubleLead (c ∷ []) else (if q then DriveLead a (c ∷ []) else NoLead)) ≡ VerbatimLead u → ⊥
    cases true q f = let never : DoubleLead (c ∷ []) ≡ VerbatimLead u = f in cc
    cases false true f = let never : DriveLead a (c ∷ []) ≡ VerbatimLead u = f in cc
    cases false false f = let never : NoLead ≡ VerbatimLead u = f in cc
begins_by (a ∷ b ∷ c ∷ d ∷ s) u e =
    cases (separates rules.Either a && separates rules.Either b) (begins_verbatim (a ∷ b ∷ c ∷ d ∷ s)) (nat_eq c 0x2E && separates rules.Either d) (is_letter a && nat_eq b 0x3A) e
  where
    cases : (p v q l : Bool) → (if p then (if v then VerbatimLead s else (if q then DeviceLead s else DoubleLead (c ∷ d ∷ s))) else (if l then DriveLead a (c ∷ d ∷ s) else NoLead)) ≡ VerbatimLead u → v ≡ true
    cases true true q l f = refl
    cases true false true l f = let never : DeviceLead s ≡ VerbatimLead u = f in cc
    cases true false false l f = let never : DoubleLead (c ∷ d ∷ s) ≡ VerbatimLead u = f in cc
    cases false v q true f = let never : DriveLead a (c ∷ d ∷ s) ≡ VerbatimLead u = f in cc
    cases false v q false f = let never : NoLead ≡ VerbatimLead u = f in cc

begins_if : (s : List ℕ) (l : Lead) (k : Kind) (rest : List ℕ) → lead_of s ≡ l → IsPrefixBy l k rest → rules_of k ≡ rules.Verbatim → begins_verbatim s ≡ true
begins_if s (VerbatimLead u) k rest e h v = begins_by s u e
begins_if s (DeviceLead u) k rest e h v = let never : rules.Either ≡ rules.Verbatim = sym (ap rules_of h.is) ∙ v in cc
begins_if s (DoubleLead u) k rest e h v = let never : rules.Either ≡ rules.Verbatim = sym (ap rules_of h.is) ∙ v in cc
begins_if s (DriveLead a u) k rest e h v = let never : rules.Either ≡ rules.Verbatim = sym (ap rules_of h.0) ∙ v in cc
begins_if s NoLead k rest e h v = absurd h

pub verbatim_begins : (s : List ℕ) (k : Kind) (rest : List ℕ) → IsPrefixOf s k rest → rules_of k ≡ rules.Verbatim → begins_verbatim s ≡ true
verbatim_begins s k rest h v = begins_if s (lead_of s) k rest refl h v

verbatim_kind : (l : VerbatimLeads) (u : List ℕ) (k : Kind) (rest : List ℕ) → IsVerbatimBy l u k rest → rules_of k ≡ rules.Verbatim
verbatim_kind (UncLead m) u k rest h = ap rules_of h.is
verbatim_kind (DiskLead a m) u k rest h = ap rules_of h.0
verbatim_kind NameLead u k rest h = ap rules_of h.is

begins_verbatim_kind : (s : List ℕ) (k : Kind) (rest : List ℕ) → IsPrefixOf s k rest → begins_verbatim s ≡ true → rules_of k ≡ rules.Verbatim
begins_verbatim_kind s k rest h b =
    let u = drop 4 s in
    let lead : lead_of s ≡ VerbatimLead u = ap lead_of (begun s b) in
    let v = subst (λ l. IsPrefixBy l k rest) lead h in
    verbatim_kind (verbatim_lead v.part v.after) u k rest v.is

-- a complete prefix stays before a root
no_unc : (n : List ℕ) → ¬ (NamesNoObject n) → n ≢ unc
no_unc n h e = h (inr (inl (ap (map to_ascii_lowercase) e)))

fits_root : (kind : Kind) → rules_of kind ≡ rules.Verbatim → ¬ (IsOpenKind kind) → Fits kind [] (0x5C ∷ [])
fits_root (Verbatim n) v h = record { edge = refl; none = λ z. inr (no_unc n h) }
fits_root (VerbatimUnc n m) v h = (record { edge = refl; none = λ z. inr (λ e. h (inr e)) }, λ z. absurd (h (inr z)))
fits_root (VerbatimDisk l) v h = record { edge = refl; none = λ z. inr tt }
fits_root (Device n) v h = let never : rules.Either ≡ rules.Verbatim = v in cc
fits_root (Unc n m) v h = let never : rules.Either ≡ rules.Verbatim = v in cc
fits_root (Disk l) v h = let never : rules.Either ≡ rules.Verbatim = v in cc

pub before_root : (s : List ℕ) (kind : Kind) → IsPrefixOf s kind [] → rules_of kind ≡ rules.Verbatim → ¬ (IsOpenKind kind) → IsPrefixOf (s ++ 0x5C ∷ []) kind (0x5C ∷ [])
before_root s kind h v p =
    let m = prefix_moves s kind [] (0x5C ∷ []) (fits_root kind v p) h in
    let same : m.before ≡ s = sym (append-nil m.before) ∙ sym m.joined in
    subst (λ z. IsPrefixOf (z ++ 0x5C ∷ []) kind (0x5C ∷ [])) same m.kept

no_start : (kind : Kind) → rules_of kind ≡ rules.Verbatim → root_of kind [] ≡ Nothing
no_start (Verbatim n) e = refl
no_start (VerbatimUnc s n) e = refl
no_start (VerbatimDisk l) e = refl
no_start (Device n) e = let never : rules.Either ≡ rules.Verbatim = e in cc
no_start (Unc s n) e = let never : rules.Either ≡ rules.Verbatim = e in cc
no_start (Disk l) e = let never : rules.Either ≡ rules.Verbatim = e in cc

-- the components of a prefix alone, and of one before its root
pub alone_items : (s : List ℕ) → IsVerbatimAlone style.Windows s → AreComponents style.Windows s (Prefix s ∷ [])
alone_items s a = prefixed (record {
  kind = a.0;
  raw = s;
  rest = [];
  joined = sym (append-nil s);
  prefix = a.1.0;
  are = ap (λ z. Prefix s ∷ (start_items z ++ [])) (sym (no_start a.0 a.1.1));
})

-- a path that lacks no part has a complete prefix
pub all_parts : (s : List ℕ) (kind : Kind) (rest : List ℕ) → IsPrefixOf s kind rest → ¬ (LacksPart style.Windows s) → ¬ (IsOpenKind kind)
all_parts s kind rest h n o = n (inl (kind, (rest, (h, o))))

pub root_items : (s : List ℕ) → ¬ (LacksPart style.Windows s) → IsVerbatimAlone style.Windows s → AreComponents style.Windows (s ++ 0x5C ∷ []) (Prefix s ∷ RootDir ∷ [])
root_items s n a = prefixed (record {
  kind = a.0;
  raw = s;
  rest = 0x5C ∷ [];
  joined = refl;
  prefix = before_root s a.0 a.1.0 a.1.1 (all_parts s a.0 [] a.1.0 n);
  are = refl;
})

-- with its root it is no prefix alone
pub root_open : (s : List ℕ) → ¬ (LacksPart style.Windows s) → IsVerbatimAlone style.Windows s → ¬ (IsVerbatimAlone style.Windows (s ++ 0x5C ∷ []))
root_open s n a b =
    let same = one_prefix (s ++ 0x5C ∷ []) a.0 b.0 (0x5C ∷ []) [] (before_root s a.0 a.1.0 a.1.1 (all_parts s a.0 [] a.1.0 n)) b.1.0 in cc

-- its own root comes after such a prefix, and after no other path
pub root_of_alone : (s : List ℕ) → IsVerbatimAlone style.Windows s → own_root (Prefix s ∷ []) ≡ RootDir ∷ []
root_of_alone s a = ap (λ z. if z then RootDir ∷ [] else []) (verbatim_begins s a.0 [] a.1.0 a.1.1)

bare_root : (r : Rules) (st : Start) (xs : List Item) → AreSpelled r xs → own_root (start_items st ++ xs) ≡ []
bare_root r Root xs sp = refl
bare_root r Dot xs sp = refl
bare_root r Nothing [] sp = refl
bare_root r Nothing (Prefix s ∷ xs) sp = absurd (no_prefix r s sp.0)
bare_root r Nothing (RootDir ∷ xs) sp = refl
bare_root r Nothing (CurDir ∷ xs) sp = refl
bare_root r Nothing (ParentDir ∷ xs) sp = refl
bare_root r Nothing (Normal s ∷ xs) sp = refl

nothing_left : (st : Start) (xs : List Item) → start_items st ++ xs ≡ [] → st ≡ Nothing
nothing_left Root xs e = cc
nothing_left Dot xs e = cc
nothing_left Nothing xs e = refl

prefixed_root : (s raw : List ℕ) (kind : Kind) (rest : List ℕ) (xs : List Item) → s ≡ raw ++ rest → IsPrefixOf s kind rest → ¬ (IsVerbatimAlone style.Windows s) → (xs ≡ [] → root_of kind rest ≡ Nothing) → own_root (Prefix raw ∷ xs) ≡ []
prefixed_root s raw kind rest (y ∷ xs) j h n e = refl
prefixed_root s raw kind rest [] j h n e = cases (begins_verbatim raw) refl
  where
    cases : (v : Bool) → begins_verbatim raw ≡ v → (if v then RootDir ∷ [] else []) ≡ []
    cases false f = refl
    cases true f =
        let v = begins_verbatim_kind raw kind [] (prefix_alone s raw kind rest j h) f in
        let none : rest ≡ [] = empty_rest kind rest v (edge_or_disk s kind rest h) (e refl) in
        absurd (n (kind, (subst (IsPrefixOf s kind) none h, v)))

pub no_own_root : (w : whose.Style) (s : List ℕ) (items : List Item) → ¬ (IsVerbatimAlone w s) → AreComponents w s items → own_root items ≡ []
no_own_root style.Unix s items n a =
    let st = start_of rules.Slash s in ap own_root a ∙ bare_root rules.Slash st (components_in rules.Slash (after_start st s)) (body_spelled rules.Slash (after_start st s))
no_own_root style.Windows s items n (bare a) =
    let st = start_of rules.Either s in ap own_root a.are ∙ bare_root rules.Either st (components_in rules.Either (after_start st s)) (body_spelled rules.Either (after_start st s))
no_own_root style.Windows s items n (prefixed a) =
    let st = root_of a.kind a.rest in
    let xs = components_in (rules_of a.kind) (after_root a.rest) in
    ap own_root a.are ∙ prefixed_root s a.raw a.kind a.rest (start_items st ++ xs) a.joined a.prefix n (nothing_left st xs)

-- where there is one, the components are those of a path that begins with `\\?\`
pub own_root_or : (xs : List Item) → (own_root xs ≡ []) ⊎ AreVerbatim xs
own_root_or [] = inl refl
own_root_or (Prefix s ∷ []) = cases (begins_verbatim s) refl
  where
    cases : (v : Bool) → begins_verbatim s ≡ v → ((if v then RootDir ∷ [] else []) ≡ []) ⊎ (begins_verbatim s ≡ true)
    cases true e = inr e
    cases false e = inl refl
own_root_or (Prefix s ∷ y ∷ xs) = inl refl
own_root_or (RootDir ∷ xs) = inl refl
own_root_or (CurDir ∷ xs) = inl refl
own_root_or (ParentDir ∷ xs) = inl refl
own_root_or (Normal s ∷ xs) = inl refl

-- what the tests say
pub open_found : (w : whose.Style) (path : List ℕ) (found : Option Kind) (rest : List ℕ) → ∥ IsFound w path found rest ∥₁ → FoundOr (BeginsOpen w) (λ kind more. IsOpenKind kind) found rest ↔ LacksPart w path
open_found w path found rest m = either_found w path found rest (BeginsOpen w) (λ kind more. IsOpenKind kind) m

pub alone_found : (w : whose.Style) (path : List ℕ) (found : Option Kind) (rest : List ℕ) → ∥ IsFound w path found rest ∥₁ → FoundWith (λ kind more. (more ≡ []) × (rules_of kind ≡ rules.Verbatim)) found rest ↔ IsVerbatimAlone w path
alone_found w path found rest m = and_then (with_found w path found rest (λ kind more. (more ≡ []) × (rules_of kind ≡ rules.Verbatim)) m) (same w)
  where
    same : (v : whose.Style) → WithPrefix v path (λ kind more. (more ≡ []) × (rules_of kind ≡ rules.Verbatim)) ↔ IsVerbatimAlone v path
    same style.Unix = (λ h. h, λ h. h)
    same style.Windows = (λ h. (h.0, (subst (IsPrefixOf path h.0) h.1.1.1.0 h.1.1.0, h.1.1.1.1)), λ a. (a.0, ([], (a.1.0, (refl, a.1.1)))))

-- neither a prefix nor the start is a reserved name
free_after : (p : List ℕ) (st : Start) (xs : List Item) → AllByRecursion IsFree xs ↔ AllByRecursion IsFree (prefix_items p ++ (start_items st ++ xs))
free_after [] Root xs = (λ h. (tt, h), λ h. h.1)
free_after [] Dot xs = (λ h. (tt, h), λ h. h.1)
free_after [] Nothing xs = (λ h. h, λ h. h)
free_after (b ∷ p) Root xs = (λ h. (tt, (tt, h)), λ h. h.1.1)
free_after (b ∷ p) Dot xs = (λ h. (tt, (tt, h)), λ h. h.1.1)
free_after (b ∷ p) Nothing xs = (λ h. (tt, h), λ h. h.1)

body_free : (w : whose.Style) (head : Head) → AreFree w (components_in head.rules head.body.now) ↔ AreFree w (items_of head)
body_free style.Unix head = (λ h. tt, λ h. tt)
body_free style.Windows head = free_after head.prefix.now head.start (components_in head.rules head.body.now)

pub free_names : (w : whose.Style) (path : List ℕ) (head : Head) (b : Bool) → AreComponents w path (items_of head) → (IsTrue b ↔ AreFree w (components_in head.rules head.body.now)) → IsTrue b ↔ HasFreeNames w path
free_names w path head b are h = (
  λ t. (items_of head, (are, (body_free w head).0 (h.0 t))),
  λ f. h.1 ((body_free w head).1 (subst (AreFree w) (one_components w path f.0 (items_of head) f.1.0 are) f.1.1)),
)

-- a base is one, whatever its proof
pub is_base : (w : whose.Style) (path : List ℕ) → ∥ IsBase w path ∥₁ → IsBase w path
is_base w path m = ∥∥₁_elim m (Prim.hlevel props) (λ h. h)
