-- What separates in what is written.
use Rattle.std.proofs.Common.{◌≡◌, inl, inr, ℕ, true, false, List, [], ◌∷◌, ◌++◌, refl, sym, ap, ◌∙◌, subst, eqb-true}
use Rattle.std.specs.List.{AllByRecursion}
use Rattle.std.proofs.lemmas.List.{append_cancel_left}
use Rattle.std.proofs.lemmas.List.Elements.{All-head, All-tail}
use Rattle.path_rules.specs.declared.rules.Rules.{Rules}
use Rattle.path_rules.specs.declared.rules.Rules.TheVariants as rules
use Rattle.path_rules.specs.declared.rules.Style as whose
use Rattle.path_rules.specs.declared.rules.Style.TheVariants as style
use Rattle.path_rules.specs.declared.head.Start.{Start}
use Rattle.path_rules.specs.declared.head.Start.TheVariants.{Root, Dot, Nothing}
use Rattle.path_rules.specs.StyleRules.{rules_of_style, main_separator}
use Rattle.path_rules.specs.Separators.{separates, IsPlain}
use Rattle.path_rules.specs.Component.{Item, Prefix, RootDir, CurDir, ParentDir, Normal, components_in}
use Rattle.path_rules.specs.Components.{AreComponents, prefixed, bare, start_of, after_start, root_of, after_root}
use Rattle.path_rules.specs.Heads.{start_items}
use Rattle.path_rules.specs.Prefix.{Kind, Verbatim, VerbatimUnc, VerbatimDisk, Device, Unc, Disk, rules_of}
use Rattle.path_rules.specs.Root.{IsAbsolute}
use Rattle.path_rules.proofs.lemmas.AfterPrefix.{after_prefix}
use Rattle.path_rules.proofs.lemmas.OneList.{one_prefix}
use Rattle.path_building.specs.Join.{IsVerbatimPath}
use Rattle.path_building.specs.Normalized.{IsShielded}
use Rattle.path_building.specs.Written.{spelling, more_names, joined_names, rooted_names, written, written_apart, IsWrittenOut, IsWritten, IsPathOf}
use Rattle.path_building.specs.Relative.{AreApart, up_from, BeginsAtTop, IsCandidate}
use Rattle.path_building.specs.Spelled.{AreSpelled}
use Rattle.path_building.specs.MainSeparators.{SeparatesBy, HasMainSeparators}
use Rattle.path_building.proofs.lemmas.Resolving.{no_prefix}
use Rattle.path_building.proofs.lemmas.Spelling.{body_spelled}

-- a component below a prefix, in which no byte separates
abbrev IsPlainItem : Rules → Item → Type 0
IsPlainItem r (Prefix s) = ⊥
IsPlainItem r RootDir = Unit {0}
IsPlainItem r CurDir = Unit {0}
IsPlainItem r ParentDir = Unit {0}
IsPlainItem r (Normal s) = IsPlain r s

abbrev ArePlainItems : Rules → List Item → Type 0
ArePlainItems r xs = AllByRecursion (IsPlainItem r) xs

dot_plain : (r : Rules) → separates r 0x2E ≡ false
dot_plain rules.Slash = refl
dot_plain rules.Either = refl
dot_plain rules.Verbatim = refl

module _ (r : Rules) where
  of_spelled : (xs : List Item) → AreSpelled r xs → ArePlainItems r xs
  of_spelled [] h = tt
  of_spelled (Prefix s ∷ xs) h = absurd (no_prefix r s h.0)
  of_spelled (RootDir ∷ xs) h = (tt, of_spelled xs h.1)
  of_spelled (CurDir ∷ xs) h = (tt, of_spelled xs h.1)
  of_spelled (ParentDir ∷ xs) h = (tt, of_spelled xs h.1)
  of_spelled (Normal s ∷ xs) h = (h.0.plain, of_spelled xs h.1)

  started : (st : Start) (xs : List Item) → ArePlainItems r xs → ArePlainItems r (start_items st ++ xs)
  started Root xs h = (tt, h)
  started Dot xs h = (tt, h)
  started Nothing xs h = h

  -- the components of a body, after a start
  body_plain : (st : Start) (body : List ℕ) → ArePlainItems r (start_items st ++ components_in r body)
  body_plain st body = started st (components_in r body) (of_spelled (components_in r body) (body_spelled r body))

  module _ (c : ℕ) where
    of_plain : (s : List ℕ) → IsPlain r s → SeparatesBy r c s
    of_plain [] h = tt
    of_plain (b ∷ s) h =
        let no = All-head (λ d. separates r d ≡ false) b s h in
        (λ e. let never : true ≡ false = sym e ∙ no in cc, of_plain s (All-tail (λ d. separates r d ≡ false) b s h))

    joined_by : (s t : List ℕ) → SeparatesBy r c s → SeparatesBy r c t → SeparatesBy r c (s ++ t)
    joined_by [] t h k = k
    joined_by (b ∷ s) t h k = (h.0, joined_by s t h.1 k)

    later_by : (s t : List ℕ) → SeparatesBy r c (s ++ t) → SeparatesBy r c t
    later_by [] t h = h
    later_by (b ∷ s) t h = later_by s t h.1

    no_dot : separates r 0x2E ≡ true → 0x2E ≡ c
    no_dot e = let never : true ≡ false = sym e ∙ dot_plain r in cc

    spelling_by : (x : Item) → IsPlainItem r x → SeparatesBy r c (spelling x)
    spelling_by (Prefix s) h = absurd h
    spelling_by RootDir h = tt
    spelling_by CurDir h = (no_dot, tt)
    spelling_by ParentDir h = (no_dot, (no_dot, tt))
    spelling_by (Normal s) h = of_plain s h

    more_by : (xs : List Item) → ArePlainItems r xs → SeparatesBy r c (more_names c xs)
    more_by [] h = tt
    more_by (x ∷ xs) h = (λ e. refl, joined_by (spelling x) (more_names c xs) (spelling_by x h.0) (more_by xs h.1))

    names_by : (xs : List Item) → ArePlainItems r xs → SeparatesBy r c (joined_names c xs)
    names_by [] h = tt
    names_by (x ∷ xs) h = joined_by (spelling x) (more_names c xs) (spelling_by x h.0) (more_by xs h.1)

    rooted_by : (xs : List Item) → ArePlainItems r xs → SeparatesBy r c (rooted_names c xs)
    rooted_by [] h = tt
    rooted_by (Prefix s ∷ xs) h = names_by (Prefix s ∷ xs) h
    rooted_by (RootDir ∷ xs) h = (λ e. refl, names_by xs h.1)
    rooted_by (CurDir ∷ xs) h = names_by (CurDir ∷ xs) h
    rooted_by (ParentDir ∷ xs) h = names_by (ParentDir ∷ xs) h
    rooted_by (Normal s ∷ xs) h = names_by (Normal s ∷ xs) h

    -- what has no prefix
    bare_names : (xs : List Item) → ArePlainItems r xs → (written c xs ≡ rooted_names c xs) × (written_apart c xs ≡ rooted_names c xs)
    bare_names [] h = (refl, refl)
    bare_names (Prefix s ∷ xs) h = absurd h.0
    bare_names (RootDir ∷ xs) h = (refl, refl)
    bare_names (CurDir ∷ xs) h = (refl, refl)
    bare_names (ParentDir ∷ xs) h = (refl, refl)
    bare_names (Normal s ∷ xs) h = (refl, refl)

-- by the rules of the style
bare_by : (w : whose.Style) (xs : List Item) (path : List ℕ) → ArePlainItems (rules_of_style w) xs → IsWritten w xs path → SeparatesBy (rules_of_style w) (main_separator w) path
bare_by w xs path h k =
    let r = rules_of_style w in
    let c = main_separator w in
    let names = rooted_names c xs in
    let by = rooted_by r c xs h in
    elim k as (λ z. SeparatesBy r c path) [
      | inl a ↦ subst (SeparatesBy r c) (sym (a.1 ∙ ap (λ z. c ∷ 0x2E ∷ z) (bare_names r c xs h).0)) (λ e. refl, (λ e. let never : false ≡ true = sym (dot_plain w) ∙ e in cc, by))
      | inr b ↦
          let is : path ≡ names = elim b.1 as (λ z. path ≡ names) [ inl a ↦ a.1 ∙ (bare_names r c xs h).1 | inr a ↦ a.1 ∙ (bare_names r c xs h).0 ] in
          subst (SeparatesBy r c) (sym is) by
    ]
  where
    dot_plain : (v : whose.Style) → separates (rules_of_style v) 0x2E ≡ false
    dot_plain style.Unix = refl
    dot_plain style.Windows = refl

-- by those of any prefix
verbatim_by : (s : List ℕ) → SeparatesBy rules.Verbatim 0x5C s
verbatim_by [] = tt
verbatim_by (b ∷ s) = (λ e. eqb-true b 0x5C e, verbatim_by s)

by_kind : (kind : Kind) (s : List ℕ) → SeparatesBy rules.Either 0x5C s → SeparatesBy (rules_of kind) 0x5C s
by_kind (Verbatim name) s h = verbatim_by s
by_kind (VerbatimUnc server share) s h = verbatim_by s
by_kind (VerbatimDisk letter) s h = verbatim_by s
by_kind (Device name) s h = h
by_kind (Unc server share) s h = h
by_kind (Disk letter) s h = h

slash_by : (s : List ℕ) → SeparatesBy rules.Slash 0x2F s
slash_by [] = tt
slash_by (b ∷ s) = (λ e. eqb-true b 0x2F e, slash_by s)

-- where no byte but the main separator separates by the style's rules, none does after a prefix
everywhere : (w : whose.Style) (path : List ℕ) → SeparatesBy (rules_of_style w) (main_separator w) path → HasMainSeparators w path
everywhere style.Unix path h = h
everywhere style.Windows path h = (
  λ kind rest p.
      let b = after_prefix path kind rest p in by_kind kind rest (later_by rules.Either 0x5C b.before rest (subst (SeparatesBy rules.Either 0x5C) b.joined h)),
  λ n. h,
)

-- after a prefix
rest_by : (path raw rest : List ℕ) (kind : Kind) (xs : List Item) → path ≡ raw ++ rest → ArePlainItems (rules_of kind) xs → IsWrittenOut style.Windows (Prefix raw ∷ xs) path → SeparatesBy (rules_of kind) 0x5C rest
rest_by path raw rest kind xs j h k =
    let r = rules_of kind in
    let names = rooted_names 0x5C xs in
    let by = rooted_by r 0x5C xs h in
    elim k as (λ z. SeparatesBy r 0x5C rest) [
      | inl a ↦ let is : rest ≡ 0x5C ∷ names = append_cancel_left raw rest (0x5C ∷ names) (sym j ∙ a.1) in subst (SeparatesBy r 0x5C) (sym is) (λ e. refl, by)
      | inr a ↦ let is : rest ≡ names = append_cancel_left raw rest names (sym j ∙ a.1) in subst (SeparatesBy r 0x5C) (sym is) by
    ]

pub main_separators : (w : whose.Style) (items : List Item) (path : List ℕ) → IsPathOf w items path → HasMainSeparators w path
main_separators style.Unix items path h = slash_by path
main_separators style.Windows items path (prefixed a, k) =
    let tail = start_items (root_of a.kind a.rest) ++ components_in (rules_of a.kind) (after_root a.rest) in
    let out : IsWrittenOut style.Windows (Prefix a.raw ∷ tail) path = elim (subst (λ z. IsWritten style.Windows z path) a.are k) [ inl o ↦ absurd o.0 | inr o ↦ o.1 ] in
    let by = rest_by path a.raw a.rest a.kind tail a.joined (body_plain (rules_of a.kind) (root_of a.kind a.rest) (after_root a.rest)) out in (
      λ kind rest p.
          let same = one_prefix path a.kind kind a.rest rest a.prefix p in
          subst (λ z. SeparatesBy (rules_of z) 0x5C rest) same.0 (subst (SeparatesBy (rules_of a.kind) 0x5C) same.1 by),
      λ n. absurd (n (a.kind, (a.rest, a.prefix))),
    )
main_separators style.Windows items path (bare a, k) =
    let st = start_of rules.Either path in
    let body = after_start st path in
    everywhere style.Windows path (bare_by style.Windows (start_items st ++ components_in rules.Either body) path (body_plain rules.Either st body) (subst (λ z. IsWritten style.Windows z path) a.are k))

-- components of which the first may be a prefix
abbrev ArePlainBelow : Rules → List Item → Type 0
ArePlainBelow r [] = Unit {0}
ArePlainBelow r (Prefix s ∷ xs) = ArePlainItems r xs
ArePlainBelow r (RootDir ∷ xs) = ArePlainItems r xs
ArePlainBelow r (CurDir ∷ xs) = ArePlainItems r xs
ArePlainBelow r (ParentDir ∷ xs) = ArePlainItems r xs
ArePlainBelow r (Normal s ∷ xs) = IsPlain r s × ArePlainItems r xs

plain_below : (r : Rules) (xs : List Item) → ArePlainItems r xs → ArePlainBelow r xs
plain_below r [] h = tt
plain_below r (Prefix s ∷ xs) h = absurd h.0
plain_below r (RootDir ∷ xs) h = h.1
plain_below r (CurDir ∷ xs) h = h.1
plain_below r (ParentDir ∷ xs) h = h.1
plain_below r (Normal s ∷ xs) h = h

other_rules : (kind : Kind) → ¬ (rules_of kind ≡ rules.Verbatim) → rules_of kind ≡ rules.Either
other_rules (Verbatim name) n = absurd (n refl)
other_rules (VerbatimUnc server share) n = absurd (n refl)
other_rules (VerbatimDisk letter) n = absurd (n refl)
other_rules (Device name) n = refl
other_rules (Unc server share) n = refl
other_rules (Disk letter) n = refl

items_plain : (w : whose.Style) (path : List ℕ) (items : List Item) → ¬ (IsVerbatimPath w path) → AreComponents w path items → ArePlainBelow (rules_of_style w) items
items_plain style.Unix path items n a =
    let st = start_of rules.Slash path in
    let body = after_start st path in
    subst (ArePlainBelow rules.Slash) (sym a) (plain_below rules.Slash (start_items st ++ components_in rules.Slash body) (body_plain rules.Slash st body))
items_plain style.Windows path items n (prefixed a) =
    let st = root_of a.kind a.rest in
    let body = after_root a.rest in
    let either = other_rules a.kind (λ e. n (a.kind, (a.rest, (a.prefix, e)))) in
    let plain : ArePlainItems rules.Either (start_items st ++ components_in (rules_of a.kind) body) = subst (λ z. ArePlainItems z (start_items st ++ components_in (rules_of a.kind) body)) either (body_plain (rules_of a.kind) st body) in
    subst (ArePlainBelow rules.Either) (sym a.are) plain
items_plain style.Windows path items n (bare a) =
    let st = start_of rules.Either path in
    let body = after_start st path in
    subst (ArePlainBelow rules.Either) (sym a.are) (plain_below rules.Either (start_items st ++ components_in rules.Either body) (body_plain rules.Either st body))

module _ (r : Rules) where
  apart_plain : (xs ys us vs : List Item) → AreApart xs ys us vs → ArePlainItems r xs → ArePlainItems r us
  apart_plain [] ys us vs a h = subst (ArePlainItems r) (sym a.0) h
  apart_plain (x ∷ xs) [] us vs a h = subst (ArePlainItems r) (sym a.0) h
  apart_plain (x ∷ xs) (y ∷ ys) us vs (inl a) h = apart_plain xs ys us vs a.1 h.1
  apart_plain (x ∷ xs) (y ∷ ys) us vs (inr a) h = subst (ArePlainItems r) (sym a.1.0) h

  left_plain : (xs ys us vs : List Item) → AreApart xs ys us vs → ArePlainBelow r xs → ¬ (BeginsAtTop us) → ArePlainItems r us
  left_plain [] ys us vs a h n = subst (ArePlainItems r) (sym a.0) tt
  left_plain (Prefix s ∷ xs) [] us vs a h n = absurd (n (subst BeginsAtTop (sym a.0) tt))
  left_plain (Prefix s ∷ xs) (y ∷ ys) us vs (inl a) h n = apart_plain xs ys us vs a.1 h
  left_plain (Prefix s ∷ xs) (y ∷ ys) us vs (inr a) h n = absurd (n (subst BeginsAtTop (sym a.1.0) tt))
  left_plain (RootDir ∷ xs) ys us vs a h n = apart_plain (RootDir ∷ xs) ys us vs a (tt, h)
  left_plain (CurDir ∷ xs) ys us vs a h n = apart_plain (CurDir ∷ xs) ys us vs a (tt, h)
  left_plain (ParentDir ∷ xs) ys us vs a h n = apart_plain (ParentDir ∷ xs) ys us vs a (tt, h)
  left_plain (Normal s ∷ xs) ys us vs a h n = apart_plain (Normal s ∷ xs) ys us vs a h

  ups_plain : (vs us : List Item) → ArePlainItems r us → ArePlainItems r (up_from vs ++ us)
  ups_plain [] us h = h
  ups_plain (v ∷ vs) us h = (tt, ups_plain vs us h)

  shown_plain : (w : whose.Style) (xs shown : List Item) → IsShielded w xs shown → ArePlainItems r xs → ArePlainItems r shown
  shown_plain w xs shown (inl a) h = subst (ArePlainItems r) (sym a.1) (tt, h)
  shown_plain w xs shown (inr a) h = subst (ArePlainItems r) (sym a.1) h

pub way_separators : (w : whose.Style) (path base way : List ℕ) → IsCandidate w path base way → ¬ (IsVerbatimPath w path) → (IsAbsolute w path → IsAbsolute w base) → HasMainSeparators w way
way_separators w path base way (inl a) n both = absurd (a.1.0 (both a.0))
way_separators w path base way (inr k) n both = elim k.way as (λ z. HasMainSeparators w way) [
  | inl a ↦ main_separators w a.1.shown way a.1.answers
  | inr a ↦
      let r = rules_of_style w in
      let left = left_plain r k.left.items k.left.base_items k.us k.left.left k.left.apart (items_plain w path k.left.items n k.left.are) a.0 in
      everywhere w way (bare_by w a.1.0 way (shown_plain r w (up_from k.vs ++ k.us) a.1.0 a.1.1.0 (ups_plain r k.vs k.us left)) a.1.1.1)
]
