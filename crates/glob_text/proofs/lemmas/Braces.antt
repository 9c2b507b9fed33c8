-- Which alternatives are open after marks, one more at a time.
use Rattle.std.proofs.Common.{◌≡◌, inl, inr, ℕ, zero, suc, ◌+◌, ◌-◌, ◌<◌, ◌≤◌, nat_eq, Bool, true, cond, List, [], ◌∷◌, ◌++◌, Some, None, refl, sym, ap, ◌∙◌, subst, arith, append_assoc, append-nil}
use Rattle.std.proofs.Math.Dec.{eqb-suc-zero}
use Rattle.glob_text.specs.Marks.{Mark, literal, any, star, one_of, opens, comma, closes}
use Rattle.glob_text.specs.Braces.{depth_after, if_some, goes_on, are_balanced, IsBraceFault}
use Rattle.glob_text.specs.BraceSteps.{outermost_after}
use Rattle.glob_text.specs.declared.fault.PatternFault.{PatternFault}
use Rattle.glob_text.specs.declared.fault.FaultKind.TheVariants.{UnclosedAlternatives, UnopenedAlternatives}

-- alternatives are open after the marks, the outermost of this index
pub record IsOpened (before : List Mark) (depth outermost : ℕ) : Type 0 where
  pub outside : List Mark
  pub inside : List Mark
  pub joined : before ≡ outside ++ opens outermost ∷ inside
  pub balanced : are_balanced 0 outside ≡ true
  pub inner : (ends : ℕ → Bool) (rest : List Mark) → goes_on ends 0 (inside ++ rest) ≡ goes_on ends (depth - 1) rest

-- so many are open after the marks
pub record AreOpen (before : List Mark) (depth outermost : ℕ) : Type 0 where
  pub level : (ends : ℕ → Bool) (rest : List Mark) → goes_on ends 0 (before ++ rest) ≡ goes_on ends depth rest
  pub opened : 0 < depth → IsOpened before depth outermost

pub none_open : (outermost : ℕ) → AreOpen [] 0 outermost
none_open outermost = record { level = λ ends rest. refl; opened = λ l. absurd (omega (arith, l)) }

pub some_same : {d e : ℕ} → Some d ≡ Some e → d ≡ e
some_same p = cc

pub at_close : (index n : ℕ) → depth_after (suc n) (closes index) ≡ Some n
at_close index n = ap (λ b. cond b None (Some (suc n - 1))) (eqb-suc-zero n) ∙ ap Some (let q : suc n - 1 ≡ n = omega arith in q)

-- one group in, the same happens
within : (mark : Mark) (depth d : ℕ) → depth_after depth mark ≡ Some d → 0 < depth → 0 < d → depth_after (depth - 1) mark ≡ Some (d - 1)
within (literal letter) depth d e l m = ap (λ z. Some (z - 1)) (some_same e)
within any depth d e l m = ap (λ z. Some (z - 1)) (some_same e)
within (star again) depth d e l m = ap (λ z. Some (z - 1)) (some_same e)
within (one_of negated ranges) depth d e l m = ap (λ z. Some (z - 1)) (some_same e)
within comma depth d e l m = ap (λ z. Some (z - 1)) (some_same e)
within (opens index) depth d e l m = let k : depth + 1 ≡ d = some_same e in ap Some (let q : depth - 1 + 1 ≡ d - 1 = omega (arith, k, l) in q)
within (closes index) zero d e l m = absurd (omega (arith, l))
within (closes index) (suc zero) d e l m = let k : 0 ≡ d = some_same (sym (at_close index 0) ∙ e) in absurd (omega (arith, k, m))
within (closes index) (suc (suc n)) d e l m =
    let k : suc n ≡ d = some_same (sym (at_close index (suc n)) ∙ e) in
    ap (λ z. depth_after z (closes index)) (let q : suc (suc n) - 1 ≡ suc n = omega arith in q) ∙ at_close index n ∙ ap Some (let q : n ≡ d - 1 = omega (arith, k) in q)

-- at most one more is open
pub depth_grows : (mark : Mark) (depth d : ℕ) → depth_after depth mark ≡ Some d → d ≤ depth + 1
depth_grows (literal letter) depth d e = let k : depth ≡ d = some_same e in omega (arith, k)
depth_grows any depth d e = let k : depth ≡ d = some_same e in omega (arith, k)
depth_grows (star again) depth d e = let k : depth ≡ d = some_same e in omega (arith, k)
depth_grows (one_of negated ranges) depth d e = let k : depth ≡ d = some_same e in omega (arith, k)
depth_grows comma depth d e = let k : depth ≡ d = some_same e in omega (arith, k)
depth_grows (opens index) depth d e = let k : depth + 1 ≡ d = some_same e in omega (arith, k)
depth_grows (closes index) zero d e = let never : None ≡ Some d = e in absurd cc
depth_grows (closes index) (suc n) d e = let k : n ≡ d = some_same (sym (at_close index n) ∙ e) in omega (arith, k)

-- nothing was open: it is opened by the mark
opened_here : (mark : Mark) (d outermost : ℕ) → depth_after 0 mark ≡ Some d → 0 < d → mark ≡ opens (outermost_after 0 outermost mark) × (d ≡ 1)
opened_here (literal letter) d o e l = absurd (let k : 0 ≡ d = some_same e in omega (arith, k, l))
opened_here any d o e l = absurd (let k : 0 ≡ d = some_same e in omega (arith, k, l))
opened_here (star again) d o e l = absurd (let k : 0 ≡ d = some_same e in omega (arith, k, l))
opened_here (one_of negated ranges) d o e l = absurd (let k : 0 ≡ d = some_same e in omega (arith, k, l))
opened_here comma d o e l = absurd (let k : 0 ≡ d = some_same e in omega (arith, k, l))
opened_here (opens index) d o e l = (refl, let k : 1 ≡ d = some_same e in sym k)
opened_here (closes index) d o e l = let never : None ≡ Some d = e in absurd cc

-- some was open: the outermost is the same
same_outermost : (mark : Mark) (n outermost : ℕ) → outermost_after (suc n) outermost mark ≡ outermost
same_outermost (literal letter) n o = refl
same_outermost any n o = refl
same_outermost (star again) n o = refl
same_outermost (one_of negated ranges) n o = refl
same_outermost comma n o = refl
same_outermost (opens index) n o = ap (λ b. cond b index o) (eqb-suc-zero n)
same_outermost (closes index) n o = refl

module _ (before : List Mark) (mark : Mark) (d : ℕ) where
  one_level : (depth : ℕ) → depth_after depth mark ≡ Some d → ((ends : ℕ → Bool) (rest : List Mark) → goes_on ends 0 (before ++ rest) ≡ goes_on ends depth rest) → (ends : ℕ → Bool) (rest : List Mark) → goes_on ends 0 ((before ++ mark ∷ []) ++ rest) ≡ goes_on ends d rest
  one_level depth e level ends rest =
      ap (goes_on ends 0) (append_assoc before (mark ∷ []) rest)
      ∙ level ends (mark ∷ rest)
      ∙ ap (λ z. if_some z (λ k. goes_on ends k rest)) e

  one_opened : (depth outermost : ℕ) → depth_after depth mark ≡ Some d → AreOpen before depth outermost → 0 < d → IsOpened (before ++ mark ∷ []) d (outermost_after depth outermost mark)
  one_opened zero outermost e h l =
      let here = opened_here mark d outermost e l in
      record {
        outside = before;
        inside = [];
        joined = ap (λ z. before ++ z ∷ []) here.0;
        balanced = ap (are_balanced 0) (sym (append-nil before)) ∙ h.level (λ k. nat_eq k 0) [];
        inner = λ ends rest. ap (λ z. goes_on ends z rest) (let k = here.1 in let q : 0 ≡ d - 1 = omega (arith, k) in q);
      }
  one_opened (suc n) outermost e h l =
      let o = h.opened (let q : 0 < suc n = omega arith in q) in
      subst (IsOpened (before ++ mark ∷ []) d) (sym (same_outermost mark n outermost)) (record {
        outside = o.outside;
        inside = o.inside ++ mark ∷ [];
        joined = ap (λ z. z ++ mark ∷ []) o.joined ∙ append_assoc o.outside (opens outermost ∷ o.inside) (mark ∷ []);
        balanced = o.balanced;
        inner = λ ends rest.
            ap (goes_on ends 0) (append_assoc o.inside (mark ∷ []) rest)
            ∙ o.inner ends (mark ∷ rest)
            ∙ ap (λ z. if_some z (λ k. goes_on ends k rest)) (within mark (suc n) d e (let q : 0 < suc n = omega arith in q) l);
      })

  pub one_mark : (depth outermost : ℕ) → depth_after depth mark ≡ Some d → AreOpen before depth outermost → AreOpen (before ++ mark ∷ []) d (outermost_after depth outermost mark)
  one_mark depth outermost e h = record {
    level = one_level depth e h.level;
    opened = one_opened depth outermost e h;
  }

-- how far a pattern's marks have been looked at
pub record Looked (marks left : List Mark) (depth outermost : ℕ) : Type 0 where
  pub before : List Mark
  pub joined : marks ≡ before ++ left
  pub open_now : AreOpen before depth outermost

module _ (marks : List Mark) where
  pub at_start : (outermost : ℕ) → Looked marks marks 0 outermost
  at_start outermost = record { before = []; joined = refl; open_now = none_open outermost }

  pub one_more_mark : (left : List Mark) (mark : Mark) (rest : List Mark) (depth outermost d o : ℕ) → Looked marks left depth outermost → left ≡ mark ∷ rest → depth_after depth mark ≡ Some d → o ≡ outermost_after depth outermost mark → Looked marks rest d o
  one_more_mark left mark rest depth outermost d o h e k p = subst (Looked marks rest d) (sym p) (record {
    before = h.before ++ mark ∷ [];
    joined = h.joined ∙ ap (λ z. h.before ++ z) e ∙ sym (append_assoc h.before (mark ∷ []) rest);
    open_now = one_mark h.before mark d depth outermost k h.open_now;
  })

  pub unopened : (left : List Mark) (index : ℕ) (rest : List Mark) (outermost : ℕ) (fault : PatternFault) → Looked marks left 0 outermost → left ≡ closes index ∷ rest → fault ≡ record { kind = UnopenedAlternatives; index = index } → IsBraceFault marks fault
  unopened left index rest outermost fault h e f = inr (record {
    before = h.before;
    index = index;
    rest = rest;
    joined = h.joined ∙ ap (λ z. h.before ++ z) e;
    none_open = ap (are_balanced 0) (sym (append-nil h.before)) ∙ h.open_now.level (λ k. nat_eq k 0) [];
    fault_is = f;
  })

  whole : (left : List Mark) (depth outermost : ℕ) (h : Looked marks left depth outermost) → left ≡ [] → marks ≡ h.before
  whole left depth outermost h e = h.joined ∙ ap (λ z. h.before ++ z) e ∙ append-nil h.before

  pub all_closed : (left : List Mark) (depth outermost : ℕ) → Looked marks left depth outermost → left ≡ [] → depth ≡ 0 → are_balanced 0 marks ≡ true
  all_closed left depth outermost h e z =
      ap (are_balanced 0) (h.joined ∙ ap (λ z. h.before ++ z) e) ∙ h.open_now.level (λ k. nat_eq k 0) [] ∙ ap (λ k. nat_eq k 0) z

  pub unclosed : (left : List Mark) (depth outermost : ℕ) (fault : PatternFault) → Looked marks left depth outermost → left ≡ [] → 0 < depth → fault ≡ record { kind = UnclosedAlternatives; index = outermost } → IsBraceFault marks fault
  unclosed left depth outermost fault h e l f =
      let o = h.open_now.opened l in
      inl (record {
        before = o.outside;
        index = outermost;
        rest = o.inside;
        joined = whole left depth outermost h e ∙ o.joined;
        outermost = o.balanced;
        unclosed = ap (goes_on (λ d. true) 0) (sym (append-nil o.inside)) ∙ o.inner (λ d. true) [];
        fault_is = f;
      })
