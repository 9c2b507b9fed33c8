-- The bytes of a path are its components and gaps by turns.
use Rattle.std.proofs.Common.{◌≡◌, ◌⊎◌, inl, inr, ◌<◌, ℕ, Bool, true, false, ◌&&◌, ◌||◌, nat_eq, if◌then◌else◌, List, [], ◌∷◌, ◌++◌, Option, Some, None, refl, sym, ap, ◌∙◌, subst, arith, append_assoc, append-nil, eqb-true, lit<}
use Rattle.std.proofs.lemmas.List.{append_cancel_right}
use Rattle.std.proofs.lemmas.List.Elements.{All-append, All-cons}
use Rattle.path_rules.specs.declared.rules.Rules.{Rules}
use Rattle.path_rules.specs.declared.rules.Rules.TheVariants as rules
use Rattle.path_rules.specs.declared.rules.Style as whose
use Rattle.path_rules.specs.declared.rules.Style.TheVariants as style
use Rattle.path_rules.specs.declared.head.Start.{Start}
use Rattle.path_rules.specs.declared.head.Start.TheVariants.{Root, Dot, Nothing}
use Rattle.path_rules.specs.Separators.{separates, IsPlain, Edge, IsField}
use Rattle.path_rules.specs.Component.{Item, Prefix, RootDir, CurDir, ParentDir, Normal, dot, named, components_in}
use Rattle.path_rules.specs.Cut.{IsAsciiCut, at_start, at_end, before_ascii, after_ascii}
use Rattle.path_rules.specs.Heads.{start_items}
use Rattle.path_rules.specs.Prefix.{Kind, Verbatim, VerbatimUnc, VerbatimDisk, Device, Unc, Disk, DriveLead, NoLead, is_letter, double_lead, IsPrefixBy, IsPrefixOf, rules_of}
use Rattle.path_rules.specs.Components.{start_of, after_start, plain_components, implied_root, root_of, after_root, AreComponents, prefixed, bare}
use Rattle.path_rules.specs.Divided.{part_of, is_between, IsGap, Place, AtStart, AfterPrefix, After, IsLoose, IsGapAt, IsGapBefore, place_after, IsDivided}
use Rattle.path_rules.specs.Parent.{IsBelow}
use Rattle.path_rules.specs.StyleRules.{rules_of_style, rules_of_path}
use Rattle.path_rules.specs.Trailing.{EndsWithSeparator}
use Rattle.path_rules.proofs.lemmas.Ascii.{ascii_separators, edge_cut}
use Rattle.path_rules.proofs.lemmas.Bodies.{cut_items, one_item, no_item, first_item, no_first_item}
use Rattle.path_rules.proofs.lemmas.Edges.{and_true, edge_after}
use Rattle.path_rules.proofs.lemmas.Starts.{is_root, items_at}
use Rattle.path_rules.proofs.lemmas.Totals.{some_field}
use Rattle.path_rules.proofs.lemmas.Tails.{field_items}
use Rattle.path_rules.proofs.lemmas.FirstParts.{skip_on}
use Rattle.path_rules.proofs.lemmas.OwnRules.{prefixed_rules, bare_rules}

-- what a part that names a component is
dot_part : (r : Rules) (x : Item) → dot r ≡ Some x → part_of x ≡ 0x2E ∷ []
dot_part rules.Slash x e = cc
dot_part rules.Either x e = cc
dot_part rules.Verbatim x e = let s : CurDir ≡ x = cc in ap part_of (sym s)

one_part : (r : Rules) (a : ℕ) (x : Item) (v : Bool) → nat_eq a 0x2E ≡ v → (if v then dot r else Some (Normal (a ∷ []))) ≡ Some x → part_of x ≡ a ∷ []
one_part r a x true e f = let is : a ≡ 0x2E = eqb-true a 0x2E e in dot_part r x f ∙ ap (λ z. z ∷ []) (sym is)
one_part r a x false e f = let s : Normal (a ∷ []) ≡ x = cc in ap part_of (sym s)

two_part : (a b : ℕ) (x : Item) (v : Bool) → (nat_eq a 0x2E && nat_eq b 0x2E) ≡ v → (if v then Some ParentDir else Some (Normal (a ∷ b ∷ []))) ≡ Some x → part_of x ≡ a ∷ b ∷ []
two_part a b x true e f =
    let both = and_true (nat_eq a 0x2E) (nat_eq b 0x2E) e in
    let first : a ≡ 0x2E = eqb-true a 0x2E both.0 in
    let second : b ≡ 0x2E = eqb-true b 0x2E both.1 in
    let s : ParentDir ≡ x = cc in ap part_of (sym s) ∙ ap (λ z. z ∷ 0x2E ∷ []) (sym first) ∙ ap (λ z. a ∷ z ∷ []) (sym second)
two_part a b x false e f = let s : Normal (a ∷ b ∷ []) ≡ x = cc in ap part_of (sym s)

pub named_part : (r : Rules) (p : List ℕ) (x : Item) → named r p ≡ Some x → part_of x ≡ p
named_part r [] x e = cc
named_part r (a ∷ []) x e = one_part r a x (nat_eq a 0x2E) refl e
named_part r (a ∷ b ∷ []) x e = two_part a b x (nat_eq a 0x2E && nat_eq b 0x2E) refl e
named_part r (a ∷ b ∷ c ∷ p) x e = let s : Normal (a ∷ b ∷ c ∷ p) ≡ x = cc in ap part_of (sym s)

-- what a part names is below the root
below_dot : (r : Rules) (x : Item) → dot r ≡ Some x → IsBelow x
below_dot rules.Slash x e = cc
below_dot rules.Either x e = cc
below_dot rules.Verbatim x e = let s : CurDir ≡ x = cc in subst IsBelow s tt

below_some : (y x : Item) → IsBelow y → Some y ≡ Some x → IsBelow x
below_some y x b e = let s : y ≡ x = cc in subst IsBelow s b

below_choice : (v : Bool) (o : Option Item) (y x : Item) → (o ≡ Some x → IsBelow x) → IsBelow y → (if v then o else Some y) ≡ Some x → IsBelow x
below_choice true o y x h b e = h e
below_choice false o y x h b e = below_some y x b e

pub named_below : (r : Rules) (p : List ℕ) (x : Item) → named r p ≡ Some x → IsBelow x
named_below r [] x e = cc
named_below r (a ∷ []) x e = below_choice (nat_eq a 0x2E) (dot r) (Normal (a ∷ [])) x (below_dot r x) tt e
named_below r (a ∷ b ∷ []) x e = below_choice (nat_eq a 0x2E && nat_eq b 0x2E) (Some ParentDir) (Normal (a ∷ b ∷ [])) x (below_some ParentDir x tt) tt e
named_below r (a ∷ b ∷ c ∷ p) x e = below_some (Normal (a ∷ b ∷ c ∷ p)) x tt e

gap_before : (r : Rules) (place : Place) (x : Item) (s : List ℕ) → IsBelow x → IsGapAt (IsLoose r) place s → IsGapBefore r place x s
gap_before r place (Prefix t) s b g = absurd b
gap_before r place RootDir s b g = absurd b
gap_before r place CurDir s b g = g
gap_before r place ParentDir s b g = g
gap_before r place (Normal t) s b g = g

after_below : (w : whose.Style) (r : Rules) (x : Item) → IsBelow x → place_after w r x ≡ After r
after_below w r (Prefix t) b = absurd b
after_below w r RootDir b = absurd b
after_below w r CurDir b = refl
after_below w r ParentDir b = refl
after_below w r (Normal t) b = refl

-- a part that names nothing is a gap
or_true : (p q : Bool) → q ≡ true → (p || q) ≡ true
or_true true q e = refl
or_true false q e = e

dot_between : (b : ℕ) → nat_eq b 0x2E ≡ true → is_between b ≡ true
dot_between b e = or_true (nat_eq b 0x2F) (nat_eq b 0x5C || nat_eq b 0x2E) (or_true (nat_eq b 0x5C) (nat_eq b 0x2E) e)

one_gap : (o : Option Item) (a : ℕ) (s : List ℕ) (v : Bool) → nat_eq a 0x2E ≡ v → (if v then o else Some (Normal s)) ≡ None → IsGap (a ∷ [])
one_gap o a s true e f = (dot_between a e, tt)
one_gap o a s false e f = let never : Some (Normal s) ≡ None = f in cc

never_none : (v : Bool) (x y : Item) → (if v then Some x else Some y) ≡ None → ⊥
never_none true x y e = let never : Some x ≡ None = e in cc
never_none false x y e = let never : Some y ≡ None = e in cc

unnamed_gap : (r : Rules) (p : List ℕ) → named r p ≡ None → IsGap p
unnamed_gap r [] e = tt
unnamed_gap r (a ∷ []) e = one_gap (dot r) a (a ∷ []) (nat_eq a 0x2E) refl e
unnamed_gap r (a ∷ b ∷ []) e = absurd (never_none (nat_eq a 0x2E && nat_eq b 0x2E) ParentDir (Normal (a ∷ b ∷ [])) e)
unnamed_gap r (a ∷ b ∷ c ∷ p) e = let never : Some (Normal (a ∷ b ∷ c ∷ p)) ≡ None = e in cc

left_true : (p q : Bool) → p ≡ true → (p || q) ≡ true
left_true true q e = refl
left_true false q e = let never : false ≡ true = e in cc

separator_between : (r : Rules) (b : ℕ) → separates r b ≡ true → is_between b ≡ true
separator_between rules.Slash b e = left_true (nat_eq b 0x2F) (nat_eq b 0x5C || nat_eq b 0x2E) e
separator_between rules.Verbatim b e = or_true (nat_eq b 0x2F) (nat_eq b 0x5C || nat_eq b 0x2E) (left_true (nat_eq b 0x5C) (nat_eq b 0x2E) e)
separator_between rules.Either b e = either (nat_eq b 0x2F) (nat_eq b 0x5C) (nat_eq b 0x2E) e
  where
    either : (p q s : Bool) → (p || q) ≡ true → (p || (q || s)) ≡ true
    either true q s h = refl
    either false q s h = left_true q s h

gap_append : (s t : List ℕ) → IsGap s → IsGap t → IsGap (s ++ t)
gap_append [] t g h = h
gap_append (b ∷ s) t g h = (g.0, gap_append s t g.1 h)

-- what ends with an ASCII byte, or is empty, may be cut off
EndsAscii : List ℕ → Type 0
EndsAscii s = (s ≡ []) ⊎ ((start : List ℕ) × ((b : ℕ) × ((s ≡ start ++ b ∷ []) × (b < 0x80))))

cut_after : (s t : List ℕ) → EndsAscii s → IsAsciiCut s t
unfolding EndsAscii
cut_after s t (inl e) = at_start e
cut_after s t (inr (start, (b, (e, low)))) = after_ascii start b e low

ascii_last : (start : List ℕ) (b : ℕ) (s : List ℕ) → s ≡ start ++ b ∷ [] → b < 0x80 → EndsAscii s
unfolding EndsAscii
ascii_last start b s e low = inr (start, (b, (e, low)))

-- after a prefix, or after a separator by rules
abbrev later : Option Rules → Place
later None = AfterPrefix
later (Some q) = After q

module _ (r : Rules) where
  none_plain : IsPlain r []
  none_plain = λ k d l. absurd (omega arith)

  loose_none : IsLoose r []
  loose_none = record { nothing = refl; ends = inl refl }

  -- a part more that names nothing
  loose_on : (s seen : List ℕ) (c : ℕ) → separates r c ≡ true → IsLoose r s → IsPlain r seen → named r seen ≡ None → IsLoose r (s ++ (seen ++ c ∷ []))
  loose_on s seen c e l p f = record { nothing = skip_on r s seen c e l.nothing l.ends (no_item r seen p (sym f)); ends = inr (record { before = s ++ seen; last = c; joined = sym (append_assoc s seen (c ∷ [])); is = e }) }

  gap_on : (o : Option Rules) (s seen : List ℕ) (c : ℕ) → separates r c ≡ true → IsGapAt (IsLoose r) (later o) s → IsPlain r seen → named r seen ≡ None → IsGapAt (IsLoose r) (later o) (s ++ (seen ++ c ∷ []))
  gap_on None s seen c e g p f = loose_on s seen c e g p f
  gap_on (Some q) s seen c e g p f = record { separator = g.separator; more = g.more ++ (seen ++ c ∷ []); joined = ap (λ x. x ++ (seen ++ c ∷ [])) g.joined; is = g.is; rest = loose_on g.more seen c e g.rest p f }

  -- and at the end
  nothing_end : (s seen : List ℕ) → IsLoose r s → components_in r seen ≡ [] → components_in r (s ++ seen) ≡ []
  nothing_end s seen l e = either l.ends
    where
      either : (s ≡ []) ⊎ EndsWithSeparator r s → components_in r (s ++ seen) ≡ []
      either (inl n) = ap (λ x. components_in r (x ++ seen)) n ∙ e
      either (inr d) =
          let first : components_in r d.before ≡ [] = sym (append-nil (components_in r d.before)) ∙ sym (cut_items r s d.before [] (record { separator = d.last; joined = d.joined; parts = d.is })) ∙ l.nothing in
          cut_items r (s ++ seen) d.before seen (record { separator = d.last; joined = ap (λ x. x ++ seen) d.joined ∙ append_assoc d.before (d.last ∷ []) seen; parts = d.is }) ∙ ap (λ x. x ++ components_in r seen) first ∙ e

  gap_end : (o : Option Rules) (s seen : List ℕ) → IsGapAt (IsLoose r) (later o) s → components_in r seen ≡ [] → IsGapAt (λ t. components_in r t ≡ []) (later o) (s ++ seen)
  gap_end None s seen g e = nothing_end s seen g e
  gap_end (Some q) s seen g e = record { separator = g.separator; more = g.more ++ seen; joined = ap (λ x. x ++ seen) g.joined; is = g.is; rest = nothing_end g.more seen g.rest e }

  one_separator : (q : Rules) (c : ℕ) → separates q c ≡ true → IsGapAt (IsLoose r) (After q) (c ∷ [])
  one_separator q c e = record { separator = c; more = []; joined = refl; is = e; rest = loose_none }

  module _ (w : whose.Style) where
    -- a part at the end
    last_part : (o : Option Rules) (before gap seen : List ℕ) → IsGap gap → IsGapAt (IsLoose r) (later o) gap → EndsAscii (before ++ gap) → IsPlain r seen → (named_as : Option Item) → named r seen ≡ named_as → IsDivided w r (later o) before (components_in r (seen ++ [])) (gap ++ (seen ++ []))
    last_part o before gap seen g k e p None f =
        let none = no_item r seen p (sym f) in
        subst (λ xs. IsDivided w r (later o) before xs (gap ++ (seen ++ []))) (sym (ap (components_in r) (append-nil seen) ∙ none))
        (gap_append gap (seen ++ []) g (subst IsGap (sym (append-nil seen)) (unnamed_gap r seen f)), inr (gap_end o gap (seen ++ []) k (ap (components_in r) (append-nil seen) ∙ none)))
    last_part o before gap seen g k e p (Some x) f =
        let low = named_below r seen x f in
        subst (λ xs. IsDivided w r (later o) before xs (gap ++ (seen ++ []))) (sym (ap (components_in r) (append-nil seen) ∙ one_item r seen x p (sym f)))
        (record {
          gap = gap;
          rest = [];
          joined = ap (λ z. gap ++ (z ++ [])) (sym (named_part r seen x f));
          is_gap = g;
          stands = gap_before r (later o) x gap low k;
          begins = cut_after (before ++ gap) (part_of x ++ []) e;
          ends = at_end refl;
          then = (tt, inl refl);
        })

    -- a part before a separator
    part_before : (o : Option Rules) (before gap seen t : List ℕ) (c : ℕ) → separates r c ≡ true → IsGap gap → IsGapAt (IsLoose r) (later o) gap → EndsAscii (before ++ gap) → IsPlain r seen
        → (IsGap (gap ++ (seen ++ c ∷ [])) → IsGapAt (IsLoose r) (later o) (gap ++ (seen ++ c ∷ [])) → EndsAscii (before ++ (gap ++ (seen ++ c ∷ []))) → IsDivided w r (later o) before (components_in r t) ((gap ++ (seen ++ c ∷ [])) ++ t))
        → ((u : List ℕ) → IsGap (c ∷ []) → EndsAscii (u ++ c ∷ []) → IsDivided w r (After r) u (components_in r t) (c ∷ t))
        → (named_as : Option Item) → named r seen ≡ named_as → IsDivided w r (later o) before (components_in r (seen ++ c ∷ t)) (gap ++ (seen ++ c ∷ t))
    part_before o before gap seen t c s g k e p more next None f =
        let low = ascii_separators r c s in
        let gaps = gap_append gap (seen ++ c ∷ []) g (gap_append seen (c ∷ []) (unnamed_gap r seen f) (separator_between r c s, tt)) in
        let last : before ++ (gap ++ (seen ++ c ∷ [])) ≡ (before ++ (gap ++ seen)) ++ c ∷ [] =
        ap (λ z. before ++ z) (sym (append_assoc gap seen (c ∷ []))) ∙ sym (append_assoc before (gap ++ seen) (c ∷ [])) in
        let whole : (gap ++ (seen ++ c ∷ [])) ++ t ≡ gap ++ (seen ++ c ∷ t) = append_assoc gap (seen ++ c ∷ []) t ∙ ap (λ z. gap ++ z) (append_assoc seen (c ∷ []) t) in
        subst (λ xs. IsDivided w r (later o) before xs (gap ++ (seen ++ c ∷ t))) (sym (no_first_item r (seen ++ c ∷ t) seen t (record { separator = c; joined = refl; parts = s }, p) (sym f)))
        (subst (IsDivided w r (later o) before (components_in r t)) whole (more gaps (gap_on o gap seen c s k p f) (ascii_last (before ++ (gap ++ seen)) c (before ++ (gap ++ (seen ++ c ∷ []))) last low)))
    part_before o before gap seen t c s g k e p more next (Some x) f =
        let low = ascii_separators r c s in
        let below = named_below r seen x f in
        let u = before ++ (gap ++ part_of x) in
        subst (λ xs. IsDivided w r (later o) before xs (gap ++ (seen ++ c ∷ t))) (sym (first_item r (seen ++ c ∷ t) seen t x (record { separator = c; joined = refl; parts = s }, p) (sym f)))
        (record {
          gap = gap;
          rest = c ∷ t;
          joined = ap (λ z. gap ++ (z ++ c ∷ t)) (sym (named_part r seen x f));
          is_gap = g;
          stands = gap_before r (later o) x gap below k;
          begins = cut_after (before ++ gap) (part_of x ++ c ∷ t) e;
          ends = before_ascii c t refl low;
          then = subst (λ place. IsDivided w r place u (components_in r t) (c ∷ t)) (sym (after_below w r x below)) (next u (separator_between r c s, tt) (ascii_last u c (u ++ c ∷ []) refl low));
        })

    -- after a gap, and a part that was seen so far
    divides : (rest : List ℕ) (o : Option Rules) (before gap seen : List ℕ) → IsGap gap → IsGapAt (IsLoose r) (later o) gap → EndsAscii (before ++ gap) → IsPlain r seen → IsDivided w r (later o) before (components_in r (seen ++ rest)) (gap ++ (seen ++ rest))
    divides [] o before gap seen g k e p = last_part o before gap seen g k e p (named r seen) refl
    divides (c ∷ t) o before gap seen g k e p = cases (separates r c) refl
        (λ h i j. divides t o before (gap ++ (seen ++ c ∷ [])) [] h i j none_plain) (λ s u h j. divides t (Some r) u (c ∷ []) [] h (one_separator r c s) j none_plain) (λ q. divides t o before gap (seen ++ c ∷ []) g k e q)
      where
        cases : (v : Bool) → separates r c ≡ v
            → (IsGap (gap ++ (seen ++ c ∷ [])) → IsGapAt (IsLoose r) (later o) (gap ++ (seen ++ c ∷ [])) → EndsAscii (before ++ (gap ++ (seen ++ c ∷ []))) → IsDivided w r (later o) before (components_in r t) ((gap ++ (seen ++ c ∷ [])) ++ t))
            → (separates r c ≡ true → (u : List ℕ) → IsGap (c ∷ []) → EndsAscii (u ++ c ∷ []) → IsDivided w r (After r) u (components_in r t) (c ∷ t))
            → (IsPlain r (seen ++ c ∷ []) → IsDivided w r (later o) before (components_in r ((seen ++ c ∷ []) ++ t)) (gap ++ ((seen ++ c ∷ []) ++ t)))
            → IsDivided w r (later o) before (components_in r (seen ++ c ∷ t)) (gap ++ (seen ++ c ∷ t))
        cases true s more next on = part_before o before gap seen t c s g k e p more (next s) (named r seen) refl
        cases false s more next on =
            let plain : IsPlain r (seen ++ c ∷ []) = All-append (λ b. separates r b ≡ false) seen (c ∷ []) p (All-cons (λ b. separates r b ≡ false) c [] s none_plain) in
            subst (λ z. IsDivided w r (later o) before (components_in r z) (gap ++ z)) (append_assoc seen (c ∷ []) t) (on plain)

    -- after a component, at an edge
    after_name : (before s : List ℕ) → Edge r s → IsDivided w r (After r) before (components_in r s) s
    after_name before [] e = (tt, inl refl)
    after_name before (c ∷ t) e =
        subst (λ xs. IsDivided w r (After r) before xs (c ∷ t)) (sym (no_first_item r (c ∷ t) [] t (record { separator = c; joined = refl; parts = e }, none_plain) refl))
        (divides t (Some r) before (c ∷ []) [] (separator_between r c e, tt) (one_separator r c e) (ascii_last before c (before ++ c ∷ []) refl (ascii_separators r c e)) none_plain)

  -- a path without a prefix
  dot_first : (b : ℕ) (u : List ℕ) → start_of r (b ∷ u) ≡ Dot → b ≡ 0x2E
  dot_first b [] e = eqb-true b 0x2E (alone (separates r b) (nat_eq b 0x2E) e)
    where
      alone : (p q : Bool) → (if p then Root else (if q then Dot else Nothing)) ≡ Dot → q ≡ true
      alone true q h = let never : Root ≡ Dot = h in cc
      alone false true h = refl
      alone false false h = let never : Nothing ≡ Dot = h in cc
  dot_first b (c ∷ u) e = eqb-true b 0x2E (both (separates r b) (nat_eq b 0x2E) (separates r c) e)
    where
      both : (p q s : Bool) → (if p then Root else (if q && s then Dot else Nothing)) ≡ Dot → q ≡ true
      both true q s h = let never : Root ≡ Dot = h in cc
      both false true s h = refl
      both false false s h = let never : Nothing ≡ Dot = h in cc

  root_first : (b : ℕ) (u : List ℕ) → start_of r (b ∷ u) ≡ Root → separates r b ≡ true
  root_first b u e = yes (separates r b) (is_root r b u e)
    where
      yes : (v : Bool) → (v ≡ false → ⊥) → v ≡ true
      yes true h = refl
      yes false h = absurd (h refl)

  dot_edge : (b : ℕ) (u : List ℕ) → start_of r (b ∷ u) ≡ Dot → Edge r u
  dot_edge b [] e = tt
  dot_edge b (c ∷ u) e = both (separates r b) (nat_eq b 0x2E) (separates r c) e
    where
      both : (p q s : Bool) → (if p then Root else (if q && s then Dot else Nothing)) ≡ Dot → s ≡ true
      both true q s h = let never : Root ≡ Dot = h in cc
      both false true true h = refl
      both false true false h = let never : Nothing ≡ Dot = h in cc
      both false false s h = let never : Nothing ≡ Dot = h in cc

  -- a path that starts with nothing begins with a part that names a component
  alone_named : (b : ℕ) → (separates r b ≡ true → ⊥) → (v : Bool) → nat_eq b 0x2E ≡ v → (v ≡ true → ⊥) → (x : Item) × (named r (b ∷ []) ≡ Some x)
  alone_named b n true e h = absurd (h refl)
  alone_named b n false e h = (Normal (b ∷ []), ap (λ v. if v then dot r else Some (Normal (b ∷ []))) e)

  two_named : (v : Bool) (y : Item) → (x : Item) × ((if v then Some ParentDir else Some y) ≡ Some x)
  two_named true y = (ParentDir, refl)
  two_named false y = (y, refl)

  no_root : (b : ℕ) (u : List ℕ) → start_of r (b ∷ u) ≡ Nothing → separates r b ≡ true → ⊥
  no_root b [] e s = let never : Root ≡ Nothing = sym (ap (λ v. if v then Root else (if nat_eq b 0x2E then Dot else Nothing)) s) ∙ e in cc
  no_root b (c ∷ u) e s = let never : Root ≡ Nothing = sym (ap (λ v. if v then Root else (if nat_eq b 0x2E && separates r c then Dot else Nothing)) s) ∙ e in cc

  no_dot_start : (b : ℕ) (u : List ℕ) → start_of r (b ∷ u) ≡ Nothing → Edge r u → nat_eq b 0x2E ≡ true → ⊥
  no_dot_start b [] e k d = alone (separates r b) (nat_eq b 0x2E) e d
    where
      alone : (p q : Bool) → (if p then Root else (if q then Dot else Nothing)) ≡ Nothing → q ≡ true → ⊥
      alone true q h i = let never : Root ≡ Nothing = h in cc
      alone false true h i = let never : Dot ≡ Nothing = h in cc
      alone false false h i = let never : false ≡ true = i in cc
  no_dot_start b (c ∷ u) e k d = both (separates r b) (nat_eq b 0x2E) (separates r c) e d k
    where
      both : (p q s : Bool) → (if p then Root else (if q && s then Dot else Nothing)) ≡ Nothing → q ≡ true → s ≡ true → ⊥
      both true q s h i j = let never : Root ≡ Nothing = h in cc
      both false true true h i j = let never : Dot ≡ Nothing = h in cc
      both false true false h i j = let never : false ≡ true = j in cc
      both false false s h i j = let never : false ≡ true = i in cc

  first_named : (b : ℕ) (u part rest : List ℕ) → start_of r (b ∷ u) ≡ Nothing → IsField r (b ∷ u) part rest → (x : Item) × (named r part ≡ Some x)
  first_named b u [] [] e f = let never : b ∷ u ≡ [] = f.joined in cc
  first_named b u [] (c ∷ rest) e f =
      let same : b ∷ u ≡ c ∷ rest = f.joined in
      let first : b ≡ c = cc in
      absurd (no_root b u e (ap (separates r) first ∙ f.edge))
  first_named b u (a ∷ []) rest e f =
      let same : b ∷ u ≡ a ∷ rest = f.joined in
      let first : b ≡ a = cc in
      let more : u ≡ rest = cc in
      subst (λ y. (x : Item) × (named r (y ∷ []) ≡ Some x)) first (alone_named b (no_root b u e) (nat_eq b 0x2E) refl (no_dot_start b u e (subst (Edge r) (sym more) f.edge)))
  first_named b u (a ∷ c ∷ []) rest e f = two_named (nat_eq a 0x2E && nat_eq c 0x2E) (Normal (a ∷ c ∷ []))
  first_named b u (a ∷ c ∷ d ∷ part) rest e f = (Normal (a ∷ c ∷ d ∷ part), refl)

  plain_divided : (w : whose.Style) → r ≡ rules_of_style w → (s : List ℕ) → IsDivided w r AtStart [] (plain_components r s) s
  plain_divided w same [] = (tt, inl refl)
  plain_divided w same (b ∷ u) = cases (start_of r (b ∷ u)) refl
    where
      at : (st : Start) → start_of r (b ∷ u) ≡ st → IsDivided w r AtStart [] (start_items st ++ components_in r (after_start st (b ∷ u))) (b ∷ u)
      at Nothing e =
          let f = some_field r (b ∷ u) in
          let part = f.0 in
          let rest = f.1.0 in
          let n = first_named b u part rest e f.1.1 in
          let x = n.0 in
          let low = named_below r part x n.1 in
          subst (λ xs. IsDivided w r AtStart [] xs (b ∷ u)) (sym (field_items r (b ∷ u) part rest x f.1.1 (sym n.1)))
          (record {
            gap = [];
            rest = rest;
            joined = f.1.1.joined ∙ ap (λ z. z ++ rest) (sym (named_part r part x n.1));
            is_gap = tt;
            stands = gap_before r AtStart x [] low refl;
            begins = at_start refl;
            ends = edge_cut r (part_of x) rest f.1.1.edge;
            then = subst (λ place. IsDivided w r place (part_of x) (components_in r rest) rest) (sym (after_below w r x low)) (after_name w (part_of x) rest f.1.1.edge);
          })
      at Root e =
          let s = root_first b u e in
          record {
            gap = [];
            rest = b ∷ u;
            joined = refl;
            is_gap = tt;
            stands = refl;
            begins = at_start refl;
            ends = at_start refl;
            then = divides w u (Some (rules_of_style w)) [] (b ∷ []) [] (separator_between r b s, tt) (one_separator (rules_of_style w) b (subst (λ q. separates q b ≡ true) same s)) (ascii_last [] b (b ∷ []) refl (ascii_separators r b s)) none_plain;
          }
      at Dot e = record {
        gap = [];
        rest = u;
        joined = ap (λ x. x ∷ u) (dot_first b u e);
        is_gap = tt;
        stands = refl;
        begins = at_start refl;
        ends = after_ascii [] 0x2E refl (lit< tt);
        then = after_name w (0x2E ∷ []) u (dot_edge b u e);
      }

      cases : (st : Start) → start_of r (b ∷ u) ≡ st → IsDivided w r AtStart [] (plain_components r (b ∷ u)) (b ∷ u)
      cases st e = subst (λ xs. IsDivided w r AtStart [] xs (b ∷ u)) (sym (items_at r (b ∷ u) st e)) (at st e)

-- a prefix gives a root or none
implied : (kind : Kind) → (implied_root kind ≡ Root) ⊎ (implied_root kind ≡ Nothing)
implied (Verbatim n) = inr refl
implied (VerbatimUnc s n) = inr refl
implied (VerbatimDisk l) = inr refl
implied (Device n) = inl refl
implied (Unc s n) = inl refl
implied (Disk l) = inr refl

-- what follows a prefix
module _ (r : Rules) (raw : List ℕ) where
  same_end : raw ++ [] ≡ raw
  same_end = append-nil raw

  -- without a separator first
  unrooted : (b : ℕ) (u : List ℕ) → EndsAscii raw → (st : Start) → ¬ (st ≡ Root) → (st ≡ Root) ⊎ (st ≡ Nothing) → IsDivided style.Windows r AfterPrefix raw (start_items st ++ components_in r (b ∷ u)) (b ∷ u)
  unrooted b u e st other (inr n) = subst (λ x. IsDivided style.Windows r AfterPrefix raw (start_items x ++ components_in r (b ∷ u)) (b ∷ u)) (sym n) (divides r style.Windows (b ∷ u) None raw [] [] tt (loose_none r) (subst EndsAscii (sym same_end) e) (none_plain r))
  unrooted b u e st other (inl n) = absurd (other n)

  -- after a separator
  rooted : (b : ℕ) (u : List ℕ) → separates rules.Either b ≡ true → IsDivided style.Windows r AfterPrefix raw (RootDir ∷ components_in r u) (b ∷ u)
  rooted b u s =
      let low = ascii_separators rules.Either b s in
      record {
        gap = [];
        rest = b ∷ u;
        joined = refl;
        is_gap = tt;
        stands = refl;
        begins = before_ascii b u refl low;
        ends = before_ascii b u refl low;
        then = divides r style.Windows u (Some rules.Either) (raw ++ []) (b ∷ []) [] (separator_between rules.Either b s, tt) (one_separator r rules.Either b s) (ascii_last (raw ++ []) b ((raw ++ []) ++ b ∷ []) refl low) (none_plain r);
      }

  nothing_left : (st : Start) → (st ≡ Root) ⊎ (st ≡ Nothing) → IsDivided style.Windows r AfterPrefix raw (start_items st ++ components_in r []) []
  nothing_left st (inr n) = subst (λ x. IsDivided style.Windows r AfterPrefix raw (start_items x ++ components_in r []) []) (sym n) (tt, inl refl)
  nothing_left st (inl n) =
      subst (λ x. IsDivided style.Windows r AfterPrefix raw (start_items x ++ components_in r []) []) (sym n)
      (record { gap = []; rest = []; joined = refl; is_gap = tt; stands = refl; begins = at_end refl; ends = at_end refl; then = (tt, inl refl) })

  rest_divided : (kind : Kind) (rest : List ℕ) → (implied_root kind ≡ Root → Edge rules.Either rest) → Edge rules.Either rest ⊎ EndsAscii raw → IsDivided style.Windows r AfterPrefix raw (start_items (root_of kind rest) ++ components_in r (after_root rest)) rest
  rest_divided kind [] edges e = nothing_left (implied_root kind) (implied kind)
  rest_divided kind (b ∷ u) edges e = cases (separates rules.Either b) refl e
    where
      cases : (v : Bool) → separates rules.Either b ≡ v → Edge rules.Either (b ∷ u) ⊎ EndsAscii raw → IsDivided style.Windows r AfterPrefix raw (start_items (root_of kind (b ∷ u)) ++ components_in r (after_root (b ∷ u))) (b ∷ u)
      cases true s h = subst (λ v. IsDivided style.Windows r AfterPrefix raw (start_items (if v then Root else implied_root kind) ++ components_in r (if v then u else b ∷ u)) (b ∷ u)) (sym s) (rooted b u s)
      cases false s (inl k) = let never : false ≡ true = sym s ∙ k in cc
      cases false s (inr k) =
          subst (λ v. IsDivided style.Windows r AfterPrefix raw (start_items (if v then Root else implied_root kind) ++ components_in r (if v then u else b ∷ u)) (b ∷ u)) (sym s)
          (unrooted b u k (implied_root kind) (λ n. let never : false ≡ true = sym s ∙ edges n in cc) (implied kind))

-- a prefix that isn't a drive ends at an edge
drive_kind : (a : ℕ) (rest : List ℕ) (kind : Kind) (t : List ℕ) → IsPrefixOf (a ∷ 0x3A ∷ rest) kind t → implied_root kind ≡ Nothing
drive_kind a rest kind t h = cases (separates rules.Either a) (is_letter a) h
  where
    cases : (p q : Bool) → IsPrefixBy (if p && false then double_lead a 0x3A rest else (if q && true then DriveLead a rest else NoLead)) kind t → implied_root kind ≡ Nothing
    cases true true k = ap implied_root k.0
    cases true false k = absurd k
    cases false true k = ap implied_root k.0
    cases false false k = absurd k

root_edge : (s : List ℕ) (kind : Kind) (rest : List ℕ) → IsPrefixOf s kind rest → Edge rules.Either rest ⊎ ((letter : ℕ) × (s ≡ letter ∷ 0x3A ∷ rest)) → implied_root kind ≡ Root → Edge rules.Either rest
root_edge s kind rest h (inl e) n = e
root_edge s kind rest h (inr d) n =
    let none = drive_kind d.0 rest kind rest (subst (λ x. IsPrefixOf x kind rest) d.1 h) in
    let never : Root ≡ Nothing = sym n ∙ none in cc

-- the end of a prefix
prefix_end : (s raw rest : List ℕ) → s ≡ raw ++ rest → Edge rules.Either rest ⊎ ((letter : ℕ) × (s ≡ letter ∷ 0x3A ∷ rest)) → Edge rules.Either rest ⊎ EndsAscii raw
prefix_end s raw rest j (inl e) = inl e
prefix_end s raw rest j (inr d) =
    let same : raw ≡ d.0 ∷ 0x3A ∷ [] = append_cancel_right raw (d.0 ∷ 0x3A ∷ []) rest (sym j ∙ d.1) in
    inr (ascii_last (d.0 ∷ []) 0x3A raw same (lit< tt))

end_cut : (raw rest : List ℕ) → Edge rules.Either rest ⊎ EndsAscii raw → IsAsciiCut raw rest
end_cut raw [] (inl e) = at_end refl
end_cut raw (b ∷ u) (inl e) = before_ascii b u refl (ascii_separators rules.Either b e)
end_cut raw rest (inr e) = cut_after raw rest e

pub divided : (w : whose.Style) (s : List ℕ) (items : List Item) → AreComponents w s items → IsDivided w (rules_of_path w s) AtStart [] items s
divided style.Unix s items a = subst (λ xs. IsDivided style.Unix rules.Slash AtStart [] xs s) (sym a) (plain_divided rules.Slash style.Unix refl s)
divided style.Windows s items (bare a) =
    subst (λ r. IsDivided style.Windows r AtStart [] items s) (sym (bare_rules s a.none)) (subst (λ xs. IsDivided style.Windows rules.Either AtStart [] xs s) (sym a.are) (plain_divided rules.Either style.Windows refl s))
divided style.Windows s items (prefixed a) =
    let edge = edge_after s a.kind a.rest a.prefix in
    let e = prefix_end s a.raw a.rest a.joined edge in
    subst (λ r. IsDivided style.Windows r AtStart [] items s) (prefixed_rules s a.kind a.rest a.prefix)
    (subst (λ xs. IsDivided style.Windows (rules_of a.kind) AtStart [] xs s) (sym a.are)
    (record {
      gap = [];
      rest = a.rest;
      joined = a.joined;
      is_gap = tt;
      stands = refl;
      begins = at_start refl;
      ends = end_cut a.raw a.rest e;
      then = rest_divided (rules_of a.kind) a.raw a.kind a.rest (root_edge s a.kind a.rest a.prefix edge) e;
    }))
