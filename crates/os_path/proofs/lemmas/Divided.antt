-- The units of a path are those of its components and of what is between them.
use Rattle.std.proofs.Common.{◌≡◌, ◌⊎◌, inl, inr, ◌<◌, ℕ, zero, suc, get_or, Bool, true, false, ◌||◌, nat_eq, List, [], ◌∷◌, ◌++◌, length, refl, sym, ap, ◌∙◌, subst, arith, append_assoc, append-nil, eqb-true, lit<}
use Rattle.std.specs.List.{flat_map}
use Rattle.std.specs.Str.{IsUtf8}
use Rattle.std.proofs.lemmas.Str.{IsUtf8-from_ascii}
use Rattle.std.proofs.lemmas.Grind.{flat_map-append}
use Rattle.wtf8_core.specs.Boundary.{IsBoundary}
use Rattle.wtf8_core.specs.OccurrenceLaws.{OccurrenceLaws}
use Rattle.path_rules.specs.Component.{Item, Prefix, RootDir, CurDir, ParentDir, Normal}
use Rattle.path_rules.specs.Cut.{IsAsciiCut, at_start, at_end}
use Rattle.path_rules.specs.Divided.{part_of, is_between, IsGap, Place, AtStart, place_after, IsDivided}
use Rattle.path_rules.specs.declared.rules.Rules.{Rules}
use Rattle.path_rules.specs.declared.rules.Style.{Style}
use Rattle.path_rules.specs.StyleRules.{rules_of_path}
use Rattle.os_path.specs.Divided.{AreByTurns, AreParts}
use Rattle.os_path.specs.Formed.{IsFormed, AreFormed}
use Rattle.os_path.proofs.lemmas.Cuts.{cut_boundary}
use Rattle.os_path.proofs.lemmas.Joined.{one_text, dots_text, nothing_formed}

-- what is between components is ASCII
between_low : (b : ℕ) → is_between b ≡ true → b < 0x80
between_low b e = cases (nat_eq b 0x2F) (nat_eq b 0x5C) refl refl
  where
    cases : (p q : Bool) → nat_eq b 0x2F ≡ p → nat_eq b 0x5C ≡ q → b < 0x80
    cases true q f h = let s : b ≡ 0x2F = eqb-true b 0x2F f in omega arith
    cases false true f h = let s : b ≡ 0x5C = eqb-true b 0x5C h in omega arith
    cases false false f h = let s : b ≡ 0x2E = eqb-true b 0x2E (sym (ap (λ x. x || (nat_eq b 0x5C || nat_eq b 0x2E)) f ∙ ap (λ x. x || nat_eq b 0x2E) h) ∙ e) in omega arith

gap_low : (s : List ℕ) → IsGap s → (i : ℕ) → get_or s i 0 < 128
gap_low [] g i = lit< tt
gap_low (b ∷ s) g zero = between_low b g.0
gap_low (b ∷ s) g (suc i) = gap_low s g.1 i

gap_text : (s : List ℕ) → IsGap s → IsUtf8 s
gap_text s g = IsUtf8-from_ascii s (gap_low s g)

abbrev all : List (List ℕ) → List ℕ
all parts = flat_map (λ part. part) parts

-- a list by its first
same_first : (x y : List ℕ) (xs ys : List (List ℕ)) → x ∷ xs ≡ y ∷ ys → (x ≡ y) × (xs ≡ ys)
same_first x y xs ys e = (cc, cc)

nothing_after : (front back : List (List ℕ)) → [] ≡ front ++ back → back ≡ []
nothing_after [] back e = sym e
nothing_after (p ∷ front) back e = cc

module _ (formed : List ℕ → Type 0) (units : List ℕ → List ℕ) (laws : OccurrenceLaws formed units) (w : Style) (r : Rules) where
  -- what follows these bytes, divided
  record Found (place : Place) (before : List ℕ) (items : List Item) (s : List ℕ) : Type 0 where
    parts : List (List ℕ)
    turns : AreByTurns w r place items parts
    in_bytes : s ≡ all parts
    in_units : units s ≡ flat_map units parts
    cuts : (front back : List (List ℕ)) → parts ≡ front ++ back → (front ≡ []) ⊎ IsAsciiCut (before ++ all front) (all back)

  part_formed : (x : Item) → IsFormed formed x → formed (part_of x)
  part_formed (Prefix s) f = f
  part_formed RootDir f = nothing_formed formed units laws
  part_formed CurDir f = laws.texts (0x2E ∷ []) (one_text 0x2E (lit< tt))
  part_formed ParentDir f = laws.texts (0x2E ∷ 0x2E ∷ []) dots_text
  part_formed (Normal s) f = f

  last_cut : (before s : List ℕ) (front back : List (List ℕ)) → s ∷ [] ≡ front ++ back → (front ≡ []) ⊎ IsAsciiCut (before ++ all front) (all back)
  last_cut before s [] back e = inl refl
  last_cut before s (p ∷ front) back e = inr (at_end (ap all (nothing_after front back ((same_first s p [] (front ++ back) e).1))))

  module _ (before gap part rest : List ℕ) (others : List (List ℕ)) (same : rest ≡ all others) (begins : IsAsciiCut (before ++ gap) (part ++ rest)) (ends : IsAsciiCut (before ++ (gap ++ part)) rest)
      (later : (front back : List (List ℕ)) → others ≡ front ++ back → (front ≡ []) ⊎ IsAsciiCut ((before ++ (gap ++ part)) ++ all front) (all back)) where
    after_both : (front back : List (List ℕ)) → others ≡ front ++ back → (front ≡ []) ⊎ IsAsciiCut ((before ++ (gap ++ part)) ++ all front) (all back) → IsAsciiCut (before ++ (gap ++ (part ++ all front))) (all back)
    after_both front back e (inl n) =
        let back_is : others ≡ back = e ∙ ap (λ x. x ++ back) n in
        let front_is : gap ++ part ≡ gap ++ (part ++ all front) = ap (λ x. gap ++ x) (sym (ap (λ x. part ++ all x) n ∙ append-nil part)) in
        subst (λ x. IsAsciiCut (before ++ x) (all back)) front_is (subst (IsAsciiCut (before ++ (gap ++ part))) (same ∙ ap all back_is) ends)
    after_both front back e (inr c) = subst (λ x. IsAsciiCut x (all back)) (append_assoc before (gap ++ part) (all front) ∙ ap (λ x. before ++ x) (append_assoc gap part (all front))) c

    each_cut : (front back : List (List ℕ)) → gap ∷ part ∷ others ≡ front ++ back → (front ≡ []) ⊎ IsAsciiCut (before ++ all front) (all back)
    each_cut [] back e = inl refl
    each_cut (p ∷ []) back e =
        let q = same_first gap p (part ∷ others) back e in
        let gap_is : gap ≡ p ++ [] = q.0 ∙ sym (append-nil p) in
        inr (subst (λ x. IsAsciiCut (before ++ x) (all back)) gap_is (subst (IsAsciiCut (before ++ gap)) (ap (λ x. part ++ x) same ∙ ap all q.1) begins))
    each_cut (p ∷ q ∷ front) back e =
        let one = same_first gap p (part ∷ others) (q ∷ (front ++ back)) e in
        let two = same_first part q others (front ++ back) one.1 in
        inr (subst (λ x. IsAsciiCut (before ++ (x ++ (q ++ all front))) (all back)) one.0 (subst (λ x. IsAsciiCut (before ++ (gap ++ (x ++ all front))) (all back)) two.0 (after_both front back two.1 (later front back two.1))))

  found : (items : List Item) (place : Place) (before s : List ℕ) → AreFormed formed items → formed s → IsDivided w r place before items s → Found place before items s
  found [] place before s fs f d = record {
    parts = s ∷ [];
    turns = (s, (d.0, (d.1, refl)));
    in_bytes = sym (append-nil s);
    in_units = sym (append-nil (units s));
    cuts = last_cut before s;
  }
  found (x ∷ xs) place before s fs f d =
      let part = part_of x in
      let one = laws.prefixes d.gap (part ++ d.rest) (laws.texts d.gap (gap_text d.gap d.is_gap)) (subst formed d.joined f) in
      let two = laws.prefixes part d.rest (part_formed x fs.0) one.0 in
      let more = found xs (place_after w r x) (before ++ (d.gap ++ part)) d.rest fs.1 two.0 d.then in
      record {
        parts = d.gap ∷ part ∷ more.parts;
        turns = (d.gap, (more.parts, (d.is_gap, (d.stands, (refl, more.turns)))));
        in_bytes = d.joined ∙ ap (λ z. d.gap ++ (part ++ z)) more.in_bytes;
        in_units = ap units d.joined ∙ one.1 ∙ ap (λ z. units d.gap ++ z) (two.1 ∙ ap (λ z. units part ++ z) more.in_units);
        cuts = each_cut before d.gap part d.rest more.parts more.in_bytes d.begins d.ends more.cuts;
      }

  each_boundary : (path : List ℕ) (items : List Item) (h : Found AtStart [] items path) (front back : List (List ℕ)) → h.parts ≡ front ++ back → (front ≡ []) ⊎ IsAsciiCut (all front) (all back) → IsBoundary path (length (all front))
  each_boundary path items h front back e (inl n) = subst (λ x. IsBoundary path (length (all x))) (sym n) (cut_boundary path [] path refl (at_start refl))
  each_boundary path items h front back e (inr c) = cut_boundary path (all front) (all back) (h.in_bytes ∙ ap all e ∙ flat_map-append (λ part. part) front back) c

pub parts_of : (formed : List ℕ → Type 0) (units : List ℕ → List ℕ) (laws : OccurrenceLaws formed units) (w : Style) (path : List ℕ) (items : List Item) → AreFormed formed items → formed path → IsDivided w (rules_of_path w path) AtStart [] items path → (parts : List (List ℕ)) × AreParts w units path items parts
parts_of formed units laws w path items fs f d =
    let r = rules_of_path w path in
    let h = found formed units laws w r items AtStart [] path fs f d in
    (h.parts, record { turns = h.turns; in_bytes = h.in_bytes; in_units = h.in_units; cuts = λ front back e. each_boundary formed units laws w r path items h front back e (h.cuts front back e) })
