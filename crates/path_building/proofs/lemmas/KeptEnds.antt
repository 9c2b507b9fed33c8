-- A path that is written from components keeps its prefix where a separator is written at its end, and one below a base its components.
use Rattle.std.proofs.Common.{◌≡◌, inl, inr, ℕ, Bool, true, false, ◌&&◌, nat_eq, if◌then◌else◌, List, [], ◌∷◌, ◌++◌, refl, sym, ap, ◌∙◌, subst, append_assoc, append-nil}
use Rattle.std.proofs.lemmas.List.{append_cancel_left, append_cancel_right}
use Rattle.path_rules.specs.declared.rules.Rules.TheVariants as rules
use Rattle.path_rules.specs.declared.rules.Style as whose
use Rattle.path_rules.specs.declared.rules.Style.TheVariants as style
use Rattle.path_rules.specs.declared.head.Start.TheVariants.{Root}
use Rattle.path_rules.specs.Separators.{separates, Edge}
use Rattle.path_rules.specs.Component.{Item, Prefix, RootDir, CurDir, ParentDir, Normal, components_in}
use Rattle.path_rules.specs.Heads.{start_items}
use Rattle.path_rules.specs.Prefix.{Kind, Verbatim, VerbatimUnc, VerbatimDisk, Device, Unc, Disk, DriveLead, NoLead, upper, is_letter, double_lead, lead_of, IsPrefixBy, IsPrefixOf, rules_of}
use Rattle.path_rules.specs.Components.{implied_root, root_of, after_root, AreBare, ArePrefixed, AreWindowsComponents, prefixed, bare}
use Rattle.path_rules.specs.Trailing.{EndsWithSeparator}
use Rattle.path_rules.proofs.lemmas.Edges.{edge_or_disk}
use Rattle.path_rules.proofs.lemmas.OneList.{one_components}
use Rattle.path_rules.proofs.lemmas.Starts.{with_root, items_at}
use Rattle.path_building.specs.Base.{IsVerbatimAlone, own_root}
use Rattle.path_building.specs.Checked.{IsCheckedJoin, IsBelowBase}
use Rattle.path_building.specs.Join.{IsBetween, ShareAPrefix, HaveTheSamePrefix}
use Rattle.path_building.specs.Normal.{AreNames}
use Rattle.path_building.specs.Spelled.{AreSpelled}
use Rattle.path_building.specs.Trailing.{IsWithTrailingSep, IsEndedAs}
use Rattle.path_building.specs.Written.{more_names, joined_names, LacksShare, NamesAShare, IsWritten, IsPathOf}
use Rattle.path_building.proofs.lemmas.AsWritten.{prefix_alone}
use Rattle.path_building.proofs.lemmas.Bases.{alone_items, root_of_alone}
use Rattle.path_building.proofs.lemmas.Moves.{Fits, prefix_moves}
use Rattle.path_building.proofs.lemmas.Spelling.{body_spelled, has_first}
use Rattle.path_building.proofs.lemmas.Trailing.{same_items}
use Rattle.path_building.proofs.lemmas.Written.{no_lead}

-- without a prefix: a path that is written begins with one separator at most
plain_second : (names : List Item) (b : ℕ) (u : List ℕ) → b ∷ u ≡ joined_names 0x5C names → AreSpelled rules.Either names → separates rules.Either b ≡ false
plain_second [] b u e h = let never : b ∷ u ≡ [] = e in cc
plain_second (x ∷ xs) b u e h =
    let f = has_first rules.Either x h.0 in
    let same : b ∷ u ≡ f.first ∷ (f.later ++ more_names 0x5C xs) = e ∙ ap (λ z. z ++ more_names 0x5C xs) f.spells in
    let first : b ≡ f.first = cc in ap (separates rules.Either) first ∙ f.plain

single : (a b : ℕ) (u : List ℕ) (items : List Item) → AreBare (a ∷ b ∷ u) items → IsWritten style.Windows items (a ∷ b ∷ u) → separates rules.Either a ≡ true → separates rules.Either b ≡ false
single a b u items h wr sep =
    let names = components_in rules.Either (b ∷ u) in
    let is : items ≡ RootDir ∷ names = h.are ∙ items_at rules.Either (a ∷ b ∷ u) Root (with_root rules.Either a (b ∷ u) sep) in
    by names (body_spelled rules.Either (b ∷ u)) (subst (λ z. IsWritten style.Windows z (a ∷ b ∷ u)) is wr)
  where
    by : (names : List Item) → AreSpelled rules.Either names → IsWritten style.Windows (RootDir ∷ names) (a ∷ b ∷ u) → separates rules.Either b ≡ false
    by names sp (inl k) = let dot : b ≡ 0x2E = cc in ap (separates rules.Either) dot
    by names sp (inr (n, inl k)) = absurd k.0
    by names sp (inr (n, inr k)) = let body : b ∷ u ≡ joined_names 0x5C names = cc in plain_second names b u body sp

not_both : (a b : ℕ) (u : List ℕ) (items : List Item) → AreBare (a ∷ b ∷ u) items → IsWritten style.Windows items (a ∷ b ∷ u) → (separates rules.Either a && separates rules.Either b) ≡ false
not_both a b u items h wr = cases (separates rules.Either a) refl
  where
    cases : (v : Bool) → separates rules.Either a ≡ v → (separates rules.Either a && separates rules.Either b) ≡ false
    cases true e = ap (λ p. p && separates rules.Either b) e ∙ single a b u items h wr e
    cases false e = ap (λ p. p && separates rules.Either b) e

lead_by : (a b : ℕ) (v : List ℕ) → (separates rules.Either a && separates rules.Either b) ≡ false → lead_of (a ∷ b ∷ v) ≡ (if is_letter a && nat_eq b 0x3A then DriveLead a v else NoLead)
lead_by a b v e = ap (λ p. if p then double_lead a b v else (if is_letter a && nat_eq b 0x3A then DriveLead a v else NoLead)) e

none_longer : (a b : ℕ) (u v : List ℕ) → (separates rules.Either a && separates rules.Either b) ≡ false → ((kind : Kind) (rest : List ℕ) → ¬ (IsPrefixOf (a ∷ b ∷ u) kind rest)) → (kind : Kind) (rest : List ℕ) → ¬ (IsPrefixOf (a ∷ b ∷ v) kind rest)
none_longer a b u v e none kind rest h = cases (is_letter a && nat_eq b 0x3A) refl
  where
    cases : (p : Bool) → (is_letter a && nat_eq b 0x3A) ≡ p → ⊥
    cases true f = none (Disk (upper a)) u (subst (λ l. IsPrefixBy l (Disk (upper a)) u) (sym (lead_by a b u e ∙ ap (λ p. if p then DriveLead a u else NoLead) f)) (refl, refl))
    cases false f = no_lead (a ∷ b ∷ v) (lead_by a b v e ∙ ap (λ p. if p then DriveLead a v else NoLead) f) kind rest h

still_none : (s : List ℕ) (items : List Item) → AreBare s items → IsWritten style.Windows items s → ¬ (EndsWithSeparator rules.Either s) → (kind : Kind) (rest : List ℕ) → ¬ (IsPrefixOf (s ++ 0x5C ∷ []) kind rest)
still_none [] items h wr n kind rest p = no_lead (0x5C ∷ []) refl kind rest p
still_none (a ∷ []) items h wr n kind rest p = cases (separates rules.Either a) refl
  where
    and_false : (q : Bool) → (q && false) ≡ false
    and_false true = refl
    and_false false = refl

    cases : (v : Bool) → separates rules.Either a ≡ v → ⊥
    cases true e = n (record { before = []; last = a; joined = refl; is = e })
    cases false e = no_lead (a ∷ 0x5C ∷ []) (lead_by a 0x5C [] (ap (λ q. q && true) e) ∙ ap (λ q. if q then DriveLead a [] else NoLead) (and_false (is_letter a))) kind rest p
still_none (a ∷ b ∷ u) items h wr n kind rest p = none_longer a b u (u ++ 0x5C ∷ []) (not_both a b u items h wr) h.none kind rest p

-- after a prefix
fits_alone : (kind : Kind) (s : List ℕ) → IsPrefixOf s kind [] → ¬ (IsVerbatimAlone style.Windows s) → Fits kind [] (0x5C ∷ [])
fits_alone (Verbatim n) s p a = absurd (a (Verbatim n, (p, refl)))
fits_alone (VerbatimUnc x y) s p a = absurd (a (VerbatimUnc x y, (p, refl)))
fits_alone (VerbatimDisk l) s p a = absurd (a (VerbatimDisk l, (p, refl)))
fits_alone (Device n) s p a = refl
fits_alone (Unc x y) s p a = refl
fits_alone (Disk l) s p a = tt

fits_more : (kind : Kind) (d : ℕ) (t : List ℕ) → separates rules.Verbatim d ≡ true → (LacksShare kind → Edge rules.Verbatim (t ++ 0x5C ∷ [])) → Fits kind (d ∷ t) (d ∷ (t ++ 0x5C ∷ []))
fits_more (Verbatim n) d t e l = record { edge = e; none = λ z. cc }
fits_more (VerbatimUnc x y) d t e l = (record { edge = e; none = λ z. cc }, l)
fits_more (VerbatimDisk k) d t e l = record { edge = e; none = λ z. cc }
fits_more (Device n) d t e l = e
fits_more (Unc x y) d t e l = e
fits_more (Disk k) d t e l = tt

share_edge : (s raw : List ℕ) (kind : Kind) (d : ℕ) (t : List ℕ) (names : List Item) → s ≡ raw ++ d ∷ t → IsPrefixOf s kind (d ∷ t) → t ≡ joined_names 0x5C names → ¬ (NamesAShare style.Windows (Prefix raw ∷ RootDir ∷ names)) → LacksShare kind → Edge rules.Verbatim (t ++ 0x5C ∷ [])
share_edge s raw kind d t [] j p e m l = subst (λ z. Edge rules.Verbatim (z ++ 0x5C ∷ [])) (sym e) refl
share_edge s raw kind d t (x ∷ xs) j p e m l = absurd (m (kind, ([], (prefix_alone s raw kind (d ∷ t) j p, l))))

fits_written : (s raw : List ℕ) (kind : Kind) (d : ℕ) (t : List ℕ) (names : List Item) → s ≡ raw ++ d ∷ t → IsPrefixOf s kind (d ∷ t) → IsWritten style.Windows (Prefix raw ∷ RootDir ∷ names) s → Fits kind (d ∷ t) (d ∷ (t ++ 0x5C ∷ []))
fits_written s raw kind d t names j p (inl k) = absurd k.0
fits_written s raw kind d t names j p (inr (n, inl k)) =
    let rest : d ∷ t ≡ 0x5C ∷ 0x5C ∷ joined_names 0x5C names = append_cancel_left raw (d ∷ t) (0x5C ∷ 0x5C ∷ joined_names 0x5C names) (sym j ∙ k.1) in
    let first : d ≡ 0x5C = cc in
    let later : t ≡ 0x5C ∷ joined_names 0x5C names = cc in
    fits_more kind d t (ap (separates rules.Verbatim) first) (λ l. subst (λ z. Edge rules.Verbatim (z ++ 0x5C ∷ [])) (sym later) refl)
fits_written s raw kind d t names j p (inr (n, inr k)) =
    let rest : d ∷ t ≡ 0x5C ∷ joined_names 0x5C names = append_cancel_left raw (d ∷ t) (0x5C ∷ joined_names 0x5C names) (sym j ∙ k.1) in
    let first : d ≡ 0x5C = cc in
    let later : t ≡ joined_names 0x5C names = cc in
    fits_more kind d t (ap (separates rules.Verbatim) first) (share_edge s raw kind d t names j p later k.0)

fits_longer : (s raw : List ℕ) (kind : Kind) (rest : List ℕ) → s ≡ raw ++ rest → IsPrefixOf s kind rest → IsWritten style.Windows (Prefix raw ∷ (start_items (root_of kind rest) ++ components_in (rules_of kind) (after_root rest))) s → ¬ (IsVerbatimAlone style.Windows s) → Fits kind rest (rest ++ 0x5C ∷ [])
fits_longer s raw kind [] j p wr a = fits_alone kind s p a
fits_longer s raw kind (d ∷ t) j p wr a = elim (edge_or_disk s kind (d ∷ t) p) [
  | inr k ↦ subst (λ z. Fits z (d ∷ t) (d ∷ (t ++ 0x5C ∷ []))) (sym k.1) tt
  | inl e ↦
      let root : root_of kind (d ∷ t) ≡ Root = ap (λ v. if v then Root else implied_root kind) e in
      let names = components_in (rules_of kind) (after_root (d ∷ t)) in
      fits_written s raw kind d t names j p (subst (λ z. IsWritten style.Windows (Prefix raw ∷ (start_items z ++ names)) s) root wr)
]

prefix_longer : (s : List ℕ) (items : List Item) → (a : ArePrefixed s items) → IsWritten style.Windows items s → ¬ (IsVerbatimAlone style.Windows s) → ShareAPrefix s (s ++ 0x5C ∷ [])
prefix_longer s items a wr alone =
    let more = a.rest ++ 0x5C ∷ [] in
    let fits = fits_longer s a.raw a.kind a.rest a.joined a.prefix (subst (λ z. IsWritten style.Windows z s) a.are wr) alone in
    let m = prefix_moves s a.kind a.rest more fits a.prefix in
    let same : m.before ≡ a.raw = append_cancel_right m.before a.raw a.rest (sym m.joined ∙ a.joined) in
    let whole : s ++ 0x5C ∷ [] ≡ a.raw ++ more = ap (λ z. z ++ 0x5C ∷ []) a.joined ∙ append_assoc a.raw a.rest (0x5C ∷ []) in
    record {
      kind = a.kind;
      raw = a.raw;
      after_first = a.rest;
      after_second = more;
      first = a.prefix;
      second = subst (λ z. IsPrefixOf z a.kind more) (ap (λ z. z ++ more) same ∙ sym whole) m.kept;
      first_joined = a.joined;
      second_joined = whole;
    }

pub same_prefix : (w : whose.Style) (s t : List ℕ) (items : List Item) → IsPathOf w items s → ¬ (IsVerbatimAlone w s) → IsWithTrailingSep w s t → HaveTheSamePrefix w s t
same_prefix style.Unix s t items h n e = tt
same_prefix style.Windows s t items h n e = by h.0 e.written
  where
    kept : e.between ≡ [] → t ≡ s
    kept k = e.is ∙ ap (λ z. s ++ z) k ∙ append-nil s

    longer : e.between ≡ 0x5C ∷ [] → t ≡ s ++ 0x5C ∷ []
    longer k = e.is ∙ ap (λ z. s ++ z) k

    by : AreWindowsComponents s items → IsBetween style.Windows s e.between → HaveTheSamePrefix style.Windows s t
    by (prefixed a) (inl k) = inl (record {
      kind = a.kind;
      raw = a.raw;
      after_first = a.rest;
      after_second = a.rest;
      first = a.prefix;
      second = subst (λ z. IsPrefixOf z a.kind a.rest) (sym (kept k.1)) a.prefix;
      first_joined = a.joined;
      second_joined = kept k.1 ∙ a.joined;
    })
    by (prefixed a) (inr k) = inl (subst (ShareAPrefix s) (sym (longer k.1)) (prefix_longer s items a h.1 n))
    by (bare a) (inl k) = inr (λ p. a.none p.0 p.1.0 p.1.1, λ p. a.none p.0 p.1.0 (subst (λ z. IsPrefixOf z p.0 p.1.0) (kept k.1) p.1.1))
    by (bare a) (inr k) = inr (
      λ p. a.none p.0 p.1.0 p.1.1,
      λ p. still_none s items a h.1 (λ x. k.0 (inr (inl x))) p.0 p.1.0 (subst (λ z. IsPrefixOf z p.0 p.1.0) (longer k.1) p.1.1),
    )

-- no path below a base is a prefix alone
not_prefix : (xs ns : List Item) (p : List ℕ) → xs ++ (own_root xs ++ ns) ≡ Prefix p ∷ [] → AreNames ns → own_root (Prefix p ∷ []) ≡ RootDir ∷ [] → ⊥
not_prefix [] [] p e n o = let never : [] ≡ Prefix p ∷ [] = e in cc
not_prefix [] (Prefix s ∷ ns) p e n o = n
not_prefix [] (RootDir ∷ ns) p e n o = n
not_prefix [] (CurDir ∷ ns) p e n o = n
not_prefix [] (ParentDir ∷ ns) p e n o = n
not_prefix [] (Normal s ∷ ns) p e n o = let never : Normal s ≡ Prefix p = cc in cc
not_prefix (x ∷ []) ns p e n o =
    let same : x ≡ Prefix p = cc in
    let none : own_root (x ∷ []) ++ ns ≡ [] = cc in
    let never : RootDir ∷ ns ≡ [] = ap (λ z. z ++ ns) (sym o ∙ ap (λ z. own_root (z ∷ [])) (sym same)) ∙ none in cc
not_prefix (x ∷ y ∷ xs) ns p e n o = let never : y ∷ (xs ++ (own_root (x ∷ y ∷ xs) ++ ns)) ≡ [] = cc in cc

not_alone : (w : whose.Style) (base path joined : List ℕ) → IsCheckedJoin w base path joined → ¬ (IsVerbatimAlone w joined)
not_alone style.Unix base path joined h a = a
not_alone style.Windows base path joined h a =
    let items = one_components style.Windows joined (h.base_items ++ (own_root h.base_items ++ h.names)) (Prefix joined ∷ []) h.answers.0 (alone_items joined a) in
    not_prefix h.base_items h.names joined items h.checked.inside.alone (root_of_alone joined a)

-- with a separator at its end a path below a base is below it
pub ended_below : (w : whose.Style) (base path joined ended : List ℕ) → IsCheckedJoin w base path joined → IsWithTrailingSep w joined ended → IsBelowBase w base ended
ended_below w base path joined ended h e =
    let items = h.base_items ++ (own_root h.base_items ++ h.names) in
    let alone = not_alone w base path joined h in
    record {
      base_items = h.base_items;
      names = h.names;
      base_are = h.base_are;
      are = same_items w joined ended e (same_prefix w joined ended items h.answers alone e) alone items h.answers.0;
      alone = h.checked.inside.alone;
    }

pub kept_below : (w : whose.Style) (base path joined ended : List ℕ) → IsCheckedJoin w base path joined → IsBelowBase w base joined → IsEndedAs w path joined ended → IsBelowBase w base ended
kept_below w base path joined ended c below (inl k) = ended_below w base path joined ended c k.1
kept_below w base path joined ended c below (inr k) = subst (IsBelowBase w base) (sym k.1) below
