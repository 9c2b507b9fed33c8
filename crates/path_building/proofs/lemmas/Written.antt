-- A path that is written from its parts has these components.
use Rattle.std.proofs.Common.{◌≡◌, ◌≢◌, ◌⊎◌, inl, inr, ◌<◌, ℕ, Bool, true, false, ◌&&◌, nat_eq, if◌then◌else◌, List, [], ◌∷◌, ◌++◌, None, length, refl, sym, ap, ◌∙◌, subst, arith}
use Rattle.std.proofs.lemmas.List.{append_cancel_right}
use Rattle.path_rules.specs.declared.rules.Rules.{Rules}
use Rattle.path_rules.specs.declared.rules.Rules.TheVariants as rules
use Rattle.path_rules.specs.declared.rules.Style as whose
use Rattle.path_rules.specs.declared.rules.Style.TheVariants as style
use Rattle.path_rules.specs.declared.head.Start.{Start}
use Rattle.path_rules.specs.declared.head.Start.TheVariants.{Root, Dot, Nothing}
use Rattle.path_rules.specs.declared.head.Head.{Head}
use Rattle.path_rules.specs.Separators.{separates, Edge}
use Rattle.path_rules.specs.StyleRules.{main_separator}
use Rattle.path_rules.specs.Component.{Item, Prefix, RootDir, CurDir, ParentDir, Normal, dot, components_in}
use Rattle.path_rules.specs.Prefix.{Kind, Verbatim, VerbatimUnc, VerbatimDisk, Device, Unc, Disk, DriveLead, NoLead, is_letter, upper, double_lead, lead_of, IsPrefixBy, IsPrefixOf, rules_of}
use Rattle.path_rules.specs.Heads.{prefix_items, start_items}
use Rattle.path_rules.specs.HeadParts.{IsHead, IsBareHead, IsPrefixedHead, bare_head, prefixed_head}
use Rattle.path_rules.specs.Components.{start_of, plain_components, implied_root, root_of, after_root, ArePrefixed, AreComponents, AreWindowsComponents, prefixed, bare}
use Rattle.path_building.specs.Written.{spelling, more_names, joined_names, LacksShare}
use Rattle.path_building.specs.Spelled.{BeginsAsPrefix, after_bytes, MayStart, DoublesRoot, AreSpelled}
use Rattle.path_rules.proofs.lemmas.AfterPrefix.{after_prefix, some_prefix}
use Rattle.path_rules.proofs.lemmas.Edges.{edge_or_disk}
use Rattle.path_building.proofs.lemmas.Moves.{Fits, prefix_moves}
use Rattle.path_rules.proofs.lemmas.Parents.{no_dot}
use Rattle.path_building.proofs.lemmas.Spelling.{spelled_again, after_separator, has_first, names_start}
use Rattle.path_rules.proofs.lemmas.Starts.{with_root, items_at}

-- without a prefix
module _ (r : Rules) (c : ℕ) (sep : separates r c ≡ true) (d : dot r ≡ None) (alone : start_of r (0x2E ∷ []) ≡ Dot) (before : (s : List ℕ) → start_of r (0x2E ∷ c ∷ s) ≡ Dot) where
  plain_written : (st : Start) (names : List Item) → AreSpelled r names → plain_components r (after_bytes c st false names) ≡ start_items st ++ names
  plain_written Root [] h = items_at r (c ∷ []) Root (with_root r c [] sep)
  plain_written Root (x ∷ xs) h =
      let s = joined_names c (x ∷ xs) in items_at r (c ∷ s) Root (with_root r c s sep) ∙ ap (λ z. RootDir ∷ z) (spelled_again r c sep (x ∷ xs) h)
  plain_written Dot [] h = items_at r (0x2E ∷ []) Dot alone
  plain_written Dot (x ∷ xs) h =
      let s = joined_names c (x ∷ xs) in items_at r (0x2E ∷ c ∷ s) Dot (before s) ∙ ap (λ z. CurDir ∷ z) (after_separator r c sep s ∙ spelled_again r c sep (x ∷ xs) h)
  plain_written Nothing names h =
      let s = joined_names c names in items_at r s Nothing (names_start r c sep d names h) ∙ spelled_again r c sep names h

pub slash_written : (st : Start) (names : List Item) → AreSpelled rules.Slash names → start_items st ++ names ≡ plain_components rules.Slash (after_bytes 0x2F st false names)
slash_written st names h = sym (plain_written rules.Slash 0x2F refl refl refl (λ s. refl) st names h)

either_written : (st : Start) (names : List Item) → AreSpelled rules.Either names → start_items st ++ names ≡ plain_components rules.Either (after_bytes 0x5C st false names)
either_written st names h = sym (plain_written rules.Either 0x5C refl refl refl (λ s. refl) st names h)

-- what is written has no prefix
pub no_lead : (s : List ℕ) → lead_of s ≡ NoLead → (k : Kind) (rest : List ℕ) → ¬ (IsPrefixOf s k rest)
no_lead s e k rest h = subst (λ l. IsPrefixBy l k rest) e h

and_false : (p : Bool) → (p && false) ≡ false
and_false true = refl
and_false false = refl

pub second_lead : (a b : ℕ) (s : List ℕ) → separates rules.Either a ≡ false → lead_of (a ∷ b ∷ s) ≡ (if is_letter a && nat_eq b 0x3A then DriveLead a s else NoLead)
second_lead a b s e = ap (λ p. if p && separates rules.Either b then double_lead a b s else (if is_letter a && nat_eq b 0x3A then DriveLead a s else NoLead)) e

root_lead : (b : ℕ) (s : List ℕ) → separates rules.Either b ≡ false → lead_of (0x5C ∷ b ∷ s) ≡ NoLead
root_lead b s e = ap (λ p. if p then double_lead 0x5C b s else NoLead) e

after_name : (a : ℕ) (xs : List Item) → separates rules.Either a ≡ false → lead_of (a ∷ more_names 0x5C xs) ≡ NoLead
after_name a [] e = refl
after_name a (x ∷ xs) e =
    let s = spelling x ++ more_names 0x5C xs in second_lead a 0x5C s e ∙ ap (λ p. if p then DriveLead a s else NoLead) (and_false (is_letter a))

-- a drive at the start of a name
drive_name : (x : Item) (xs : List Item) (a b : ℕ) (t : List ℕ) → spelling x ≡ a ∷ b ∷ t → separates rules.Either a ≡ false → (is_letter a && nat_eq b 0x3A) ≡ true → BeginsAsPrefix style.Windows (x ∷ xs)
drive_name (Prefix s) xs a b t e f g = cc
drive_name RootDir xs a b t e f g = cc
drive_name CurDir xs a b t e f g = cc
drive_name ParentDir xs a b t e f g =
    let first : 0x2E ≡ a = cc in
    let never : false ≡ true = ap (λ z. is_letter z && nat_eq b 0x3A) first ∙ g in cc
drive_name (Normal s) xs a b t e f g =
    let lead : lead_of s ≡ DriveLead a t = ap lead_of e ∙ second_lead a b t f ∙ ap (λ p. if p then DriveLead a t else NoLead) g in
    (Disk (upper a), (t, subst (λ l. IsPrefixBy l (Disk (upper a)) t) (sym lead) (refl, refl)))

name_lead : (x : Item) (xs : List Item) (a : ℕ) (t : List ℕ) → spelling x ≡ a ∷ t → separates rules.Either a ≡ false → ¬ (BeginsAsPrefix style.Windows (x ∷ xs)) → lead_of (a ∷ (t ++ more_names 0x5C xs)) ≡ NoLead
name_lead x xs a [] e f n = after_name a xs f
name_lead x xs a (b ∷ t) e f n = cases (is_letter a && nat_eq b 0x3A) refl
  where
    cases : (v : Bool) → (is_letter a && nat_eq b 0x3A) ≡ v → lead_of (a ∷ b ∷ (t ++ more_names 0x5C xs)) ≡ NoLead
    cases true g = absurd (n (drive_name x xs a b t e f g))
    cases false g = second_lead a b (t ++ more_names 0x5C xs) f ∙ ap (λ p. if p then DriveLead a (t ++ more_names 0x5C xs) else NoLead) g

bare_lead : (st : Start) (names : List Item) → AreSpelled rules.Either names → (st ≡ Nothing → ¬ (BeginsAsPrefix style.Windows names)) → lead_of (after_bytes 0x5C st false names) ≡ NoLead
bare_lead Root [] h n = refl
bare_lead Root (x ∷ xs) h n =
    let f = has_first rules.Either x h.0 in
    ap (λ z. lead_of (0x5C ∷ (z ++ more_names 0x5C xs))) f.spells ∙ root_lead f.first (f.later ++ more_names 0x5C xs) f.plain
bare_lead Dot [] h n = refl
bare_lead Dot (x ∷ xs) h n = refl
bare_lead Nothing [] h n = refl
bare_lead Nothing (x ∷ xs) h n =
    let f = has_first rules.Either x h.0 in
    ap (λ z. lead_of (z ++ more_names 0x5C xs)) f.spells ∙ name_lead x xs f.first f.later f.spells f.plain (n refl)

pub bare_written : (st : Start) (names : List Item) → AreSpelled rules.Either names → (st ≡ Nothing → ¬ (BeginsAsPrefix style.Windows names)) → AreWindowsComponents (after_bytes 0x5C st false names) (start_items st ++ names)
bare_written st names h n = bare (record { none = no_lead (after_bytes 0x5C st false names) (bare_lead st names h n); are = either_written st names h })

-- after a prefix
record Tail (kind : Kind) (rest : List ℕ) (st : Start) (t : List ℕ) (names : List Item) : Type 0 where
  fits : Fits kind rest t
  root : root_of kind t ≡ st
  body : components_in (rules_of kind) (after_root t) ≡ names

backslash : (kind : Kind) → separates (rules_of kind) 0x5C ≡ true
backslash (Verbatim n) = refl
backslash (VerbatimUnc n m) = refl
backslash (VerbatimDisk l) = refl
backslash (Device n) = refl
backslash (Unc n m) = refl
backslash (Disk l) = refl

fits_root : (kind : Kind) (rest u : List ℕ) → root_of kind rest ≡ Root → (LacksShare kind → Edge rules.Verbatim u) → Fits kind rest (0x5C ∷ u)
fits_root (Verbatim n) rest u e l = record { edge = refl; none = λ z. let never : Nothing ≡ Root = sym (ap (root_of (Verbatim n)) z) ∙ e in cc }
fits_root (VerbatimUnc n m) rest u e l = (record { edge = refl; none = λ z. let never : Nothing ≡ Root = sym (ap (root_of (VerbatimUnc n m)) z) ∙ e in cc }, l)
fits_root (VerbatimDisk n) rest u e l = record { edge = refl; none = λ z. let never : Nothing ≡ Root = sym (ap (root_of (VerbatimDisk n)) z) ∙ e in cc }
fits_root (Device n) rest u e l = refl
fits_root (Unc n m) rest u e l = refl
fits_root (Disk n) rest u e l = tt

pub fits_nothing : (kind : Kind) (rest : List ℕ) → Fits kind rest []
fits_nothing (Verbatim n) rest = record { edge = tt; none = λ z. inl refl }
fits_nothing (VerbatimUnc n m) rest = (record { edge = tt; none = λ z. inl refl }, λ z. tt)
fits_nothing (VerbatimDisk l) rest = record { edge = tt; none = λ z. inl refl }
fits_nothing (Device n) rest = tt
fits_nothing (Unc n m) rest = tt
fits_nothing (Disk l) rest = tt

pub no_root : (kind : Kind) (rest : List ℕ) → root_of kind rest ≡ Nothing → implied_root kind ≡ Nothing
no_root kind [] e = e
no_root kind (b ∷ rest) e = cases (separates rules.Either b) e
  where
    cases : (v : Bool) → (if v then Root else implied_root kind) ≡ Nothing → implied_root kind ≡ Nothing
    cases true f = let never : Root ≡ Nothing = f in cc
    cases false f = f

-- after a drive
drive_tail : (l : ℕ) (rest : List ℕ) (x : Item) (xs : List Item) → AreSpelled rules.Either (x ∷ xs) → Tail (Disk l) rest Nothing (joined_names 0x5C (x ∷ xs)) (x ∷ xs)
drive_tail l rest x xs h =
    let f = has_first rules.Either x h.0 in
    let t = joined_names 0x5C (x ∷ xs) in
    let same : f.first ∷ (f.later ++ more_names 0x5C xs) ≡ t = ap (λ z. z ++ more_names 0x5C xs) (sym f.spells) in
    subst (λ z. Tail (Disk l) rest Nothing z (x ∷ xs)) same (record {
      fits = tt;
      root = ap (λ v. if v then Root else Nothing) f.plain;
      body =
          ap (λ v. components_in rules.Either (if v then f.later ++ more_names 0x5C xs else f.first ∷ (f.later ++ more_names 0x5C xs))) f.plain
          ∙ ap (components_in rules.Either) same ∙ spelled_again rules.Either 0x5C refl (x ∷ xs) h;
    })

tail_of : (kind : Kind) (rest : List ℕ) (doubled : Bool) → Edge rules.Either rest ⊎ ((letter : ℕ) × (kind ≡ Disk letter)) → (LacksShare kind → doubled ≡ true) → (st : Start) → root_of kind rest ≡ st → (names : List Item) → AreSpelled (rules_of kind) names → (rules_of kind ≡ rules.Verbatim → root_of kind rest ≡ Nothing → names ≡ []) → Tail kind rest st (after_bytes 0x5C st doubled names) names
tail_of kind rest doubled k share Root e [] h none = record { fits = fits_root kind rest [] e (λ l. tt); root = refl; body = refl }
tail_of kind rest false k share Root e (x ∷ xs) h none = record {
  fits = fits_root kind rest (joined_names 0x5C (x ∷ xs)) e (λ l. let never : false ≡ true = share l in cc);
  root = refl;
  body = spelled_again (rules_of kind) 0x5C (backslash kind) (x ∷ xs) h;
}
tail_of kind rest true k share Root e (x ∷ xs) h none = record {
  fits = fits_root kind rest (0x5C ∷ joined_names 0x5C (x ∷ xs)) e (λ l. refl);
  root = refl;
  body = after_separator (rules_of kind) 0x5C (backslash kind) (joined_names 0x5C (x ∷ xs)) ∙ spelled_again (rules_of kind) 0x5C (backslash kind) (x ∷ xs) h;
}
tail_of kind rest doubled k share Dot e names h none = absurd (no_dot kind rest e)
tail_of kind rest doubled k share Nothing e [] h none = record { fits = fits_nothing kind rest; root = no_root kind rest e; body = refl }
tail_of (Verbatim n) rest doubled (inl edge) share Nothing e (x ∷ xs) h none = let never : x ∷ xs ≡ [] = none refl e in cc
tail_of (VerbatimUnc n m) rest doubled (inl edge) share Nothing e (x ∷ xs) h none = let never : x ∷ xs ≡ [] = none refl e in cc
tail_of (VerbatimDisk l) rest doubled (inl edge) share Nothing e (x ∷ xs) h none = let never : x ∷ xs ≡ [] = none refl e in cc
tail_of (Device n) rest doubled (inl edge) share Nothing e (x ∷ xs) h none = let never : Root ≡ Nothing = no_root (Device n) rest e in cc
tail_of (Unc n m) rest doubled (inl edge) share Nothing e (x ∷ xs) h none = let never : Root ≡ Nothing = no_root (Unc n m) rest e in cc
tail_of (Disk l) rest doubled (inl edge) share Nothing e (x ∷ xs) h none = drive_tail l rest x xs h
tail_of kind rest doubled (inr (l, is)) share Nothing e (x ∷ xs) h none =
    subst (λ z. Tail z rest Nothing (joined_names 0x5C (x ∷ xs)) (x ∷ xs)) (sym is) (drive_tail l rest x xs (subst (λ z. AreSpelled (rules_of z) (x ∷ xs)) is h))

pub prefixed_written : (s raw : List ℕ) (kind : Kind) (rest : List ℕ) (doubled : Bool) (names : List Item) → s ≡ raw ++ rest → IsPrefixOf s kind rest → (LacksShare kind → doubled ≡ true) → AreSpelled (rules_of kind) names → (rules_of kind ≡ rules.Verbatim → root_of kind rest ≡ Nothing → names ≡ []) → ArePrefixed (raw ++ after_bytes 0x5C (root_of kind rest) doubled names) (Prefix raw ∷ (start_items (root_of kind rest) ++ names))
prefixed_written s raw kind rest doubled names j h share sp none =
    let st = root_of kind rest in
    let t = after_bytes 0x5C st doubled names in
    let q = tail_of kind rest doubled (edge_or_disk s kind rest h) share st refl names sp none in
    let m = prefix_moves s kind rest t q.fits h in
    let same : m.before ≡ raw = append_cancel_right m.before raw rest (sym m.joined ∙ j) in
    record {
      kind = kind;
      raw = raw;
      rest = t;
      joined = refl;
      prefix = subst (λ z. IsPrefixOf (z ++ t) kind t) same m.kept;
      are = ap (λ z. Prefix raw ∷ (start_items z ++ names)) (sym q.root) ∙ ap (λ z. Prefix raw ∷ (start_items (root_of kind t) ++ z)) (sym q.body);
    }

pub not_doubled : (v : Bool) → (v ≡ true → ⊥) → v ≡ false
not_doubled true h = absurd (h refl)
not_doubled false h = refl

module _ (path : List ℕ) (head : Head) (st : Start) (doubled : Bool) (names : List Item) (sp : AreSpelled head.rules names) (none : head.rules ≡ rules.Verbatim → head.start ≡ Nothing → names ≡ []) where
  prefix_some : (s raw : List ℕ) (k : Kind) (rest : List ℕ) → s ≡ raw ++ rest → IsPrefixOf s k rest → 0 < length raw
  prefix_some s raw k rest j h =
      let b = after_prefix s k rest h in
      let same : b.before ≡ raw = append_cancel_right b.before raw rest (sym b.joined ∙ j) in
      subst (λ z. 0 < length z) same b.some

  of_prefixed : MayStart style.Windows head st names → DoublesRoot style.Windows path doubled → IsPrefixedHead path head → AreWindowsComponents (head.prefix.now ++ after_bytes 0x5C st doubled names) (prefix_items head.prefix.now ++ (start_items st ++ names))
  of_prefixed may dbl h =
      let raw = head.prefix.now in
      let some = prefix_some path raw h.kind h.rest h.joined h.is in
      let not_none : raw ≢ [] = λ z. let n : length raw ≡ 0 = ap length z in omega (arith, n, some) in
      let starts : st ≡ root_of h.kind h.rest = may.1 not_none ∙ h.start in
      let left : rules_of h.kind ≡ rules.Verbatim → root_of h.kind h.rest ≡ Nothing → names ≡ [] = λ v z. none (h.rules ∙ v) (h.start ∙ z) in
      let q = prefixed_written path raw h.kind h.rest doubled names h.joined h.is (λ l. dbl.1 (h.kind, (h.rest, (h.is, l)))) (subst (λ z. AreSpelled z names) h.rules sp) left in
      subst (λ z. AreWindowsComponents (raw ++ after_bytes 0x5C st doubled names) (z ++ (start_items st ++ names))) (sym (some_prefix raw some))
      (subst (λ z. AreWindowsComponents (raw ++ after_bytes 0x5C z doubled names) (Prefix raw ∷ (start_items z ++ names))) (sym starts) (prefixed q))

  of_bare : MayStart style.Windows head st names → DoublesRoot style.Windows path doubled → IsBareHead path head → AreWindowsComponents (head.prefix.now ++ after_bytes 0x5C st doubled names) (prefix_items head.prefix.now ++ (start_items st ++ names))
  of_bare may dbl h =
      let once : doubled ≡ false = not_doubled doubled (λ e. let k = dbl.0 e in h.none k.0 k.1.0 k.1.1.0) in
      subst (λ z. AreWindowsComponents (z ++ after_bytes 0x5C st doubled names) (prefix_items z ++ (start_items st ++ names))) (sym h.prefix)
      (subst (λ z. AreWindowsComponents (after_bytes 0x5C st z names) (start_items st ++ names)) (sym once) (bare_written st names (subst (λ z. AreSpelled z names) h.rules sp) (may.0 h.prefix)))

  -- what is written has the prefix, the start and the names
  pub written_is : (w : whose.Style) → MayStart w head st names → DoublesRoot w path doubled → IsHead w path head → AreComponents w (head.prefix.now ++ after_bytes (main_separator w) st doubled names) (prefix_items head.prefix.now ++ (start_items st ++ names))
  written_is style.Unix may dbl h =
      subst (λ z. AreComponents style.Unix (z ++ after_bytes 0x2F st doubled names) (prefix_items z ++ (start_items st ++ names))) (sym h.prefix)
      (subst (λ z. AreComponents style.Unix (after_bytes 0x2F st z names) (start_items st ++ names)) (sym dbl) (slash_written st names (subst (λ z. AreSpelled z names) h.rules sp)))
  written_is style.Windows may dbl (bare_head h) = of_bare may dbl h
  written_is style.Windows may dbl (prefixed_head h) = of_prefixed may dbl h
