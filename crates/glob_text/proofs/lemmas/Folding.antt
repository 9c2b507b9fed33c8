-- Letters that are alike, found by pairs that ascend.
use Rattle.std.proofs.Common.{◌≡◌, ◌≢◌, ◌⊎◌, inl, inr, ⊎_elim, ℕ, zero, suc, ◌+◌, ◌<◌, ◌≤◌, ◌&&◌, Bool, true, false, List, [], ◌∷◌, ◌++◌, length, get_or, refl, sym, ap, ◌∙◌, subst, arith}
use Rattle.std.proofs.Math.Dec.{eqb, leb, ltb}
use Rattle.std.specs.List.{Contains}
use Rattle.std.specs.List.Sorted.{IsNonDecreasingBy, IsPartitionPoint}
use Rattle.std.proofs.lemmas.Bool.{and_parts, and_from, or_cases, or_left, or_right, eqb-true, eqb-false, leb-true, le-leb, ltb-true, ltb-false}
use Rattle.std.proofs.lemmas.List.{get_or_default}
use Rattle.ucd_case.specs.CaseFolding.{simple_fold, fold_pairs, IsFoldPairs}
use Rattle.ucd_case.specs.FoldOtherRows.{fold_other_rows}
use Rattle.wildcards.specs.declared.range.Range.{Range}
use Rattle.wildcards.specs.Ranges.{is_in, lies_in}
use Rattle.glob_text.specs.Folded.{HasAlike, AreFolded, IsAlone, IsFolded, AreCased}
use Rattle.glob_text.specs.FoldSteps.{AddsAlike, IsFirstPair}
use Rattle.glob_text.specs.Marks.{Mark}
use Rattle.wildcards.specs.ClassName.{range}

same_or_not : (a b : ℕ) → (a ≡ b) ⊎ (a ≢ b)
same_or_not a b = by_eqb (eqb a b) refl
  where
    by_eqb : (v : Bool) → eqb a b ≡ v → (a ≡ b) ⊎ (a ≢ b)
    by_eqb true e = inl (eqb-true a b e)
    by_eqb false e = inr (eqb-false a b e)

in_order : (a b : ℕ) → (a ≤ b) ⊎ (b < a)
in_order a b = by_ltb (ltb b a) refl
  where
    by_ltb : (v : Bool) → ltb b a ≡ v → (a ≤ b) ⊎ (b < a)
    by_ltb true e = inr (ltb-true b a e)
    by_ltb false e = inl (ltb-false b a e)

-- the pairs ascend by their first letters
abbrev firsts_rise : ℕ → List (ℕ × ℕ) → Bool
firsts_rise low [] = true
firsts_rise low (p ∷ ps) = leb low p.0 && firsts_rise p.0 ps

all_rise : firsts_rise 0 fold_pairs ≡ true
unfolding fold_pairs fold_other_rows
all_rise = refl

above_low : (low : ℕ) (ps : List (ℕ × ℕ)) (j : ℕ) (d : ℕ × ℕ) → firsts_rise low ps ≡ true → j < length ps → low ≤ (get_or ps j d).0
above_low low [] j d e l = absurd (omega (arith, l))
above_low low (p ∷ ps) zero d e l = leb-true low p.0 (and_parts (leb low p.0) (firsts_rise p.0 ps) e).0
above_low low (p ∷ ps) (suc j) d e l =
    let h = and_parts (leb low p.0) (firsts_rise p.0 ps) e in
    let a = leb-true low p.0 h.0 in
    let b = above_low p.0 ps j d h.1 (omega (arith, l)) in
    omega (arith, a, b)

rise : (low : ℕ) (ps : List (ℕ × ℕ)) → firsts_rise low ps ≡ true → IsNonDecreasingBy (λ p. p.0) ps
rise low [] e i j d l k = absurd (omega (arith, k))
rise low (p ∷ ps) e zero zero d l k = omega arith
rise low (p ∷ ps) e zero (suc j) d l k = above_low p.0 ps j d (and_parts (leb low p.0) (firsts_rise p.0 ps) e).1 (omega (arith, k))
rise low (p ∷ ps) e (suc i) zero d l k = absurd (omega (arith, l))
rise low (p ∷ ps) e (suc i) (suc j) d l k = rise p.0 ps (and_parts (leb low p.0) (firsts_rise p.0 ps) e).1 i j d (omega (arith, l)) (omega (arith, k))

pub pairs_rise : IsNonDecreasingBy (λ p. p.0) fold_pairs
pairs_rise = rise 0 fold_pairs all_rise

pub first_pair_from : (letter at : ℕ) → IsPartitionPoint (λ (p : ℕ × ℕ). ltb p.0 letter ≡ true) (λ p. ltb p.0 letter ≡ false) fold_pairs at → IsFirstPair letter at
first_pair_from letter at h = record {
  lower = λ k d l m. ltb-true (get_or fold_pairs k d).0 letter (h.0 k d l m);
  others = λ k d l m. ltb-false (get_or fold_pairs k d).0 letter (h.1 k d l m);
}

-- the pair is in the table from this index on
pub record IsPairFrom (at letter other : ℕ) : Type 0 where
  pub place : ℕ
  pub from : at ≤ place
  pub within : place < length fold_pairs
  pub pair : get_or fold_pairs place (letter, other) ≡ (letter, other)

module _ (meaning : IsFoldPairs fold_pairs) where
  -- a letter that has another is in a pair from the first on
  in_pair : (low at letter other : ℕ) → IsFirstPair low at → low ≤ letter → letter ≢ other → simple_fold letter ≡ simple_fold other → IsPairFrom at letter other
  in_pair low at letter other h l apart alike = by_place ((meaning letter other).1 (apart, alike))
    where
      by_order : (k : ℕ) → k < length fold_pairs → get_or fold_pairs k (letter, other) ≡ (letter, other) → (at ≤ k) ⊎ (k < at) → IsPairFrom at letter other
      by_order k m e (inl f) = record { place = k; from = f; within = m; pair = e }
      by_order k m e (inr f) = let lower = h.lower k (letter, other) (omega arith) f in let first = ap (λ q. q.0) e in absurd (omega (arith, lower, first, l))

      by_place : Contains fold_pairs (letter, other) → IsPairFrom at letter other
      by_place c = by_order c.0 c.1 c.2 (in_order at c.0)

  -- a pair of the table is of letters that are alike
  alike_at : (at : ℕ) (p : ℕ × ℕ) → at < length fold_pairs → p ≡ get_or fold_pairs at p → (p.0 ≢ p.1) × (simple_fold p.0 ≡ simple_fold p.1)
  alike_at at p l e = (meaning p.0 p.1).0 (at, l, sym e)

  pub alone_past : (letter at : ℕ) → IsFirstPair letter at → length fold_pairs ≤ at → IsAlone letter
  alone_past letter at h l other alike =
      ⊎_elim (λ same. same) (λ apart. let k = in_pair letter at letter other h (omega arith) apart alike in let a = k.from in let b = k.within in absurd (omega (arith, a, b, l))) (same_or_not letter other)

  pub alone_at : (letter at : ℕ) (p : ℕ × ℕ) → IsFirstPair letter at → at < length fold_pairs → p ≡ get_or fold_pairs at p → p.0 ≢ letter → IsAlone letter
  alone_at letter at p h l e n other alike =
      ⊎_elim (λ same. same)
      (λ apart.
      let k = in_pair letter at letter other h (omega arith) apart alike in
      let rises = pairs_rise at k.place (letter, other) k.from k.within in
      let first = ap (λ q. q.0) k.pair in
      let lowest = h.others at (letter, other) (omega arith) l in
      let same = ap (λ q. q.0) (e ∙ get_or_default fold_pairs at p (letter, other) l) in
      absurd (n (omega (arith, rises, first, lowest, same))))
      (same_or_not letter other)

  pub not_alone : (letter at : ℕ) (p : ℕ × ℕ) → at < length fold_pairs → p ≡ get_or fold_pairs at p → p.0 ≡ letter → IsAlone letter → ⊥
  not_alone letter at p l e same is_alone =
      let k = alike_at at p l e in
      k.0 (same ∙ is_alone p.1 (subst (λ a. simple_fold a ≡ simple_fold p.1) same k.1))

-- ranges, and one more
more_left : (fs : List Range) (r : Range) (c : ℕ) → is_in fs c ≡ true → is_in (fs ++ r ∷ []) c ≡ true
more_left [] r c e = let never : false ≡ true = e in absurd cc
more_left (f ∷ fs) r c e =
    ⊎_elim (λ h. or_left (lies_in f c) (is_in (fs ++ r ∷ []) c) h) (λ h. or_right (lies_in f c) (is_in (fs ++ r ∷ []) c) (more_left fs r c h)) (or_cases (lies_in f c) (is_in fs c) e)

more_right : (fs : List Range) (r : Range) (c : ℕ) → lies_in r c ≡ true → is_in (fs ++ r ∷ []) c ≡ true
more_right [] r c e = or_left (lies_in r c) false e
more_right (f ∷ fs) r c e = or_right (lies_in f c) (is_in (fs ++ r ∷ []) c) (more_right fs r c e)

more_cases : (fs : List Range) (r : Range) (c : ℕ) → is_in (fs ++ r ∷ []) c ≡ true → (is_in fs c ≡ true) ⊎ (lies_in r c ≡ true)
more_cases [] r c e = ⊎_elim inr (λ h. let never : false ≡ true = h in absurd cc) (or_cases (lies_in r c) false e)
more_cases (f ∷ fs) r c e =
    ⊎_elim (λ h. inl (or_left (lies_in f c) (is_in fs c) h)) (λ h. ⊎_elim (λ k. inl (or_right (lies_in f c) (is_in fs c) k)) inr (more_cases fs r c h)) (or_cases (lies_in f c) (is_in (fs ++ r ∷ []) c) e)

pub lies_alone : (a c : ℕ) → lies_in (range a a) c ≡ true → a ≡ c
lies_alone a c e = let h = and_parts (leb a c) (leb c a) e in omega (arith, leb-true a c h.0, leb-true c a h.1)

pub lies_itself : (a : ℕ) → lies_in (range a a) a ≡ true
lies_itself a = and_from (leb a a) (leb a a) (le-leb a a (omega arith)) (le-leb a a (omega arith))

-- the letters that differ from one of the range in case alone and aren't in it, of the pairs before this index
pub record IsAddedSoFar (r : Range) (old now : List Range) (at : ℕ) : Type 0 where
  pub kept : (c : ℕ) → is_in old c ≡ true → is_in now c ≡ true
  pub sound : (c : ℕ) → is_in now c ≡ true → (is_in old c ≡ true) ⊎ HasAlike (r ∷ []) c
  pub to_come : (m c : ℕ) → lies_in r m ≡ true → lies_in r c ≡ false → m ≢ c → simple_fold m ≡ simple_fold c → (is_in now c ≡ true) ⊎ IsPairFrom at m c
  pub above : (k : ℕ) (d : ℕ × ℕ) → at ≤ k → k < length fold_pairs → r.first ≤ (get_or fold_pairs k d).0

module _ (meaning : IsFoldPairs fold_pairs) (r : Range) (old : List Range) where
  pub none_added : (at : ℕ) → IsFirstPair r.first at → IsAddedSoFar r old old at
  none_added at h = record {
    kept = λ c e. e;
    sound = λ c e. inl e;
    to_come = λ m c lies out apart alike. inr (in_pair meaning r.first at m c h (leb-true r.first m (and_parts (leb r.first m) (leb m r.last) lies).0) apart alike);
    above = λ k d f l. h.others k d f l;
  }

  pub one_added : (now more : List Range) (at : ℕ) (p : ℕ × ℕ) → IsAddedSoFar r old now at → at < length fold_pairs → p ≡ get_or fold_pairs at p → p.0 ≤ r.last → more ≡ now ++ range p.1 p.1 ∷ [] → IsAddedSoFar r old more (at + 1)
  one_added now more at p h l e below i = subst (λ z. IsAddedSoFar r old z (at + 1)) (sym i) (record {
    kept = λ c k. more_left now (range p.1 p.1) c (h.kept c k);
    sound = λ c k. ⊎_elim (λ before. h.sound c before) (λ here. inr (p.0, (member, (alike_at meaning at p l e).1 ∙ ap simple_fold (lies_alone p.1 c here)))) (more_cases now (range p.1 p.1) c k);
    to_come = λ m c lies out apart alike. ⊎_elim (λ before. inl (more_left now (range p.1 p.1) c before)) (λ k. by_place m c k (in_order (at + 1) k.place)) (h.to_come m c lies out apart alike);
    above = λ k d f m. h.above k d (omega (arith, f)) m;
  })
    where
      first : r.first ≤ p.0
      first = subst (λ z. r.first ≤ z.0) (sym e) (h.above at p (omega arith) l)

      member : is_in (r ∷ []) p.0 ≡ true
      member = or_left (lies_in r p.0) false (and_from (leb r.first p.0) (leb p.0 r.last) (le-leb r.first p.0 first) (le-leb p.0 r.last below))

      by_place : (m c : ℕ) (k : IsPairFrom at m c) → (at + 1 ≤ k.place) ⊎ (k.place < at + 1) → (is_in (now ++ range p.1 p.1 ∷ []) c ≡ true) ⊎ IsPairFrom (at + 1) m c
      by_place m c k (inl f) = inr (record { place = k.place; from = f; within = k.within; pair = k.pair })
      by_place m c k (inr f) =
          let from = k.from in
          let here : at ≡ k.place = omega (arith, f, from) in
          let pair : p ≡ (m, c) = e ∙ get_or_default fold_pairs at p (m, c) l ∙ ap (λ z. get_or fold_pairs z (m, c)) here ∙ k.pair in
          let other : p.1 ≡ c = ap (λ q. q.1) pair in
          inl (subst (λ z. is_in (now ++ range p.1 p.1 ∷ []) z ≡ true) other (more_right now (range p.1 p.1) p.1 (lies_itself p.1)))

  pub all_added : (now : List Range) (at : ℕ) → IsAddedSoFar r old now at → length fold_pairs ≤ at → AddsAlike r old now
  all_added now at h l = record {
    kept = h.kept;
    sound = h.sound;
    complete = λ m c lies out apart alike. ⊎_elim (λ k. k) (λ k. let a = k.from in let b = k.within in absurd (omega (arith, a, b, l))) (h.to_come m c lies out apart alike);
  }

  pub none_more : (now : List Range) (at : ℕ) (p : ℕ × ℕ) → IsAddedSoFar r old now at → at < length fold_pairs → p ≡ get_or fold_pairs at p → lies_in r p.1 ≡ true → IsAddedSoFar r old now (at + 1)
  none_more now at p h l e inside = record {
    kept = h.kept;
    sound = h.sound;
    to_come = λ m c lies out apart alike. ⊎_elim inl (λ k. by_place m c k out (in_order (at + 1) k.place)) (h.to_come m c lies out apart alike);
    above = λ k d f m. h.above k d (omega (arith, f)) m;
  }
    where
      by_place : (m c : ℕ) (k : IsPairFrom at m c) → lies_in r c ≡ false → (at + 1 ≤ k.place) ⊎ (k.place < at + 1) → (is_in now c ≡ true) ⊎ IsPairFrom (at + 1) m c
      by_place m c k out (inl f) = inr (record { place = k.place; from = f; within = k.within; pair = k.pair })
      by_place m c k out (inr f) =
          let from = k.from in
          let here : at ≡ k.place = omega (arith, f, from) in
          let pair : p ≡ (m, c) = e ∙ get_or_default fold_pairs at p (m, c) l ∙ ap (λ z. get_or fold_pairs z (m, c)) here ∙ k.pair in
          let other : p.1 ≡ c = ap (λ q. q.1) pair in
          let never : false ≡ true = sym out ∙ sym (ap (lies_in r) other) ∙ inside in
          absurd cc

  pub added_below : (now : List Range) (at : ℕ) (p : ℕ × ℕ) → IsAddedSoFar r old now at → at < length fold_pairs → p ≡ get_or fold_pairs at p → r.last < p.0 → AddsAlike r old now
  added_below now at p h l e past = record {
    kept = h.kept;
    sound = h.sound;
    complete = λ m c lies out apart alike. ⊎_elim (λ k. k)
        (λ k.
        let rises = pairs_rise at k.place (m, c) k.from k.within in
        let first = ap (λ q. q.0) k.pair in
        let same = ap (λ q. q.0) (e ∙ get_or_default fold_pairs at p (m, c) l) in
        let last = leb-true m r.last (and_parts (leb r.first m) (leb m r.last) lies).1 in
        absurd (omega (arith, rises, first, same, last, past)))
        (h.to_come m c lies out apart alike);
  }

-- how far the ranges have been folded: the letters that are alike one of them are there, or alike one that is left
pub record IsFoldedSoFar (ranges folded left : List Range) : Type 0 where
  pub sound : (letter : ℕ) → is_in folded letter ≡ true → HasAlike ranges letter
  pub kept : (letter : ℕ) → is_in ranges letter ≡ true → is_in folded letter ≡ true
  pub to_come : (m c : ℕ) → is_in ranges m ≡ true → m ≢ c → simple_fold m ≡ simple_fold c → (is_in folded c ≡ true) ⊎ (is_in left m ≡ true)
  pub within : (m : ℕ) → is_in left m ≡ true → is_in ranges m ≡ true

pub none_folded : (ranges folded : List Range) → folded ≡ ranges → IsFoldedSoFar ranges folded ranges
none_folded ranges folded same = record {
  sound = λ c h. (c, (subst (λ z. is_in z c ≡ true) same h, refl));
  kept = λ c h. subst (λ z. is_in z c ≡ true) (sym same) h;
  to_come = λ m c h apart alike. inr h;
  within = λ m h. h;
}

pub one_folded : (ranges folded more : List Range) (r : Range) (left : List Range) → IsFoldedSoFar ranges folded (r ∷ left) → AddsAlike r folded more → IsFoldedSoFar ranges more left
one_folded ranges folded more r left h a = record {
  sound = λ c e. ⊎_elim (λ before. h.sound c before)
      (λ alike. (alike.0, (h.within alike.0 (⊎_elim (λ lies. or_left (lies_in r alike.0) (is_in left alike.0) lies) (λ never. let n : false ≡ true = never in absurd cc) (or_cases (lies_in r alike.0) false alike.1.0)), alike.1.1)))
      (a.sound c e);
  kept = λ c e. a.kept c (h.kept c e);
  to_come = λ m c e apart alike. ⊎_elim (λ before. inl (a.kept c before))
      (λ k. ⊎_elim (λ lies. inl (by_range m c lies apart alike (lies_in r c) refl)) inr (or_cases (lies_in r m) (is_in left m) k))
      (h.to_come m c e apart alike);
  within = λ m e. h.within m (or_right (lies_in r m) (is_in left m) e);
}
  where
    by_range : (m c : ℕ) → lies_in r m ≡ true → m ≢ c → simple_fold m ≡ simple_fold c → (b : Bool) → lies_in r c ≡ b → is_in more c ≡ true
    by_range m c lies apart alike true e = a.kept c (h.kept c (h.within c (or_left (lies_in r c) (is_in left c) e)))
    by_range m c lies apart alike false e = a.complete m c lies e apart alike

pub all_folded : (ranges folded left : List Range) → IsFoldedSoFar ranges folded left → left ≡ [] → AreFolded ranges folded
all_folded ranges folded left h none = record {
  sound = h.sound;
  complete = λ c alike.
      ⊎_elim (λ same. subst (λ z. is_in folded z ≡ true) same (h.kept alike.0 alike.1.0))
      (λ apart. ⊎_elim (λ k. k) (λ k. let never : false ≡ true = ap (λ z. is_in z alike.0) (sym none) ∙ k in absurd cc) (h.to_come alike.0 c alike.1.0 apart alike.1.1))
      (same_or_not alike.0 c);
}

pub more_cased : (ms cs : List Mark) (m c : Mark) → AreCased true ms cs → IsFolded m c → AreCased true (ms ++ m ∷ []) (cs ++ c ∷ [])
more_cased [] [] m c h k = (k, tt)
more_cased [] (d ∷ cs) m c h k = absurd h
more_cased (n ∷ ms) [] m c h k = absurd h
more_cased (n ∷ ms) (d ∷ cs) m c h k = (h.0, more_cased ms cs m c h.1 k)
