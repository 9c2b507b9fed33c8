-- A text has one fault, and none if it has a meaning.
use Rattle.std.proofs.Common.{◌≡◌, inl, inr, ⊎_elim, ℕ, zero, suc, ◌+◌, nat_eq, Bool, true, false, cond, List, [], ◌∷◌, ◌++◌, length, Option, Some, None, refl, sym, ap, ◌∙◌, subst, arith, append_assoc, append-nil}
use Rattle.std.proofs.Math.Dec.{eqb-suc-zero}
use Rattle.wildcards.specs.declared.pattern.Choice.{Choice}
use Rattle.wildcards.specs.Reading.{LetterLaws}
use Rattle.glob_text.specs.declared.fault.PatternFault.{PatternFault}
use Rattle.glob_text.specs.declared.fault.FaultKind.TheVariants.{UnclosedAlternatives, UnopenedAlternatives}
use Rattle.glob_text.specs.declared.symbol.Symbol.{Symbol}
use Rattle.wildcards.specs.declared.separators.Separators.{Separators}
use Rattle.glob_text.specs.declared.syntax.Syntax.{Syntax}
use Rattle.glob_text.specs.Alternatives.{mark_count, AreChoices, AreTooLarge, AreWithinLimits, Level, is_itself, StandFor, nothing, one, group, first, next}
use Rattle.glob_text.specs.Braces.{depth_after, if_some, goes_on, are_balanced, IsBraceFault}
use Rattle.glob_text.specs.BraceSteps.{outermost_after}
use Rattle.glob_text.specs.Folded.{AreCased}
use Rattle.glob_text.specs.Marks.{Mark, literal, any, star, one_of, opens, comma, closes}
use Rattle.glob_text.specs.Texts.{AreChoicesOf, AreOfSymbols, IsChoiceFault, IsFault, IsMeaning, IsSymbolsFault}
use Rattle.glob_text.proofs.lemmas.Backwards.{one_list}
use Rattle.glob_text.proofs.lemmas.Braces.{at_close}
use Rattle.glob_text.proofs.lemmas.Choices.{some_after}
use Rattle.glob_text.proofs.lemmas.OneMeaning.{AreSame, ChoicesSame, IsSame, Pairwise, cased_same, over}
use Rattle.glob_text.proofs.lemmas.OneReading.{mark_fault_once, marks_once, marks_or_fault, symbols_once}

abbrev unclosed : ℕ → PatternFault
unclosed index = record { kind = UnclosedAlternatives; index = index }

-- the fault of a mark that closes nothing
abbrev unopened : Mark → PatternFault
unopened (closes index) = record { kind = UnopenedAlternatives; index = index }
unopened m = record { kind = UnopenedAlternatives; index = 0 }

abbrev go_on : PatternFault → Option ℕ → (ℕ → Option PatternFault) → Option PatternFault
go_on fault None f = Some fault
go_on fault (Some depth) f = f depth

-- the fault of the braces, by the number of alternatives that are open before the marks, and the index of the outermost
abbrev fault_in : ℕ → ℕ → List Mark → Option PatternFault
fault_in depth outermost [] = cond (nat_eq depth 0) None (Some (unclosed outermost))
fault_in depth outermost (m ∷ ms) = go_on (unopened m) (depth_after depth m) (λ d. fault_in d (outermost_after depth outermost m) ms)

zero_depth : (depth : ℕ) → nat_eq depth 0 ≡ true → depth ≡ 0
zero_depth zero e = refl
zero_depth (suc n) e = let never : false ≡ true = sym (eqb-suc-zero n) ∙ e in absurd cc

-- marks whose braces are closed change nothing
closed_before : (depth outermost : ℕ) (ms rest : List Mark) → are_balanced depth ms ≡ true → (o : ℕ) × (fault_in depth outermost (ms ++ rest) ≡ fault_in 0 o rest)
closed_before depth outermost [] rest e = (outermost, ap (λ z. fault_in z outermost rest) (zero_depth depth e))
closed_before depth outermost (m ∷ ms) rest e =
    let after = some_after m depth ms e in
    let o = outermost_after depth outermost m in
    let more = closed_before after.0 o ms rest after.2 in
    (more.0, ap (λ z. go_on (unopened m) z (λ d. fault_in d o (ms ++ rest))) after.1 ∙ more.1)

no_fault_in : (ms : List Mark) → are_balanced 0 ms ≡ true → fault_in 0 0 ms ≡ None
no_fault_in ms e = ap (fault_in 0 0) (sym (append-nil ms)) ∙ (closed_before 0 0 ms [] e).1

-- marks that close nothing of what was open before them leave that open
stays_open : (depth outermost : ℕ) (ms : List Mark) → goes_on (λ d. true) depth ms ≡ true → fault_in (suc depth) outermost ms ≡ Some (unclosed outermost)
stays_open depth outermost [] e = ap (λ b. cond b None (Some (unclosed outermost))) (eqb-suc-zero depth)
stays_open depth outermost (literal letter ∷ ms) e = stays_open depth outermost ms e
stays_open depth outermost (any ∷ ms) e = stays_open depth outermost ms e
stays_open depth outermost (star again ∷ ms) e = stays_open depth outermost ms e
stays_open depth outermost (one_of negated ranges ∷ ms) e = stays_open depth outermost ms e
stays_open depth outermost (opens index ∷ ms) e =
    ap (λ b. fault_in (suc depth + 1) (cond b index outermost) ms) (eqb-suc-zero depth)
    ∙ ap (λ z. fault_in z outermost ms) (let q : suc depth + 1 ≡ suc (depth + 1) = omega arith in q)
    ∙ stays_open (depth + 1) outermost ms e
stays_open depth outermost (comma ∷ ms) e = stays_open depth outermost ms e
stays_open zero outermost (closes index ∷ ms) e = let never : false ≡ true = e in absurd cc
stays_open (suc n) outermost (closes index ∷ ms) e =
    ap (λ z. go_on (unopened (closes index)) z (λ d. fault_in d outermost ms)) (at_close index (suc n))
    ∙ stays_open n outermost ms (ap (λ z. if_some z (λ d. goes_on (λ k. true) d ms)) (sym (at_close index n)) ∙ e)

brace_fault_in : (ms : List Mark) (fault : PatternFault) → IsBraceFault ms fault → fault_in 0 0 ms ≡ Some fault
brace_fault_in ms fault (inl f) =
    ap (fault_in 0 0) f.joined ∙ (closed_before 0 0 f.before (opens f.index ∷ f.rest) f.outermost).1 ∙ stays_open 0 f.index f.rest f.unclosed ∙ ap Some (sym f.fault_is)
brace_fault_in ms fault (inr f) =
    ap (fault_in 0 0) f.joined ∙ (closed_before 0 0 f.before (closes f.index ∷ f.rest) f.none_open).1 ∙ ap Some (sym f.fault_is)

-- marks that are the same have the same fault
fault_same : (depth outermost : ℕ) (ms ns : List Mark) → AreSame ms ns → fault_in depth outermost ms ≡ fault_in depth outermost ns
fault_same depth outermost [] [] h = refl
fault_same depth outermost [] (n ∷ ns) h = absurd h
fault_same depth outermost (m ∷ ms) [] h = absurd h
fault_same depth outermost (m ∷ ms) (n ∷ ns) h = by_mark (λ d o. fault_same d o ms ns h.1) h.0
  where
    by_depth : ((d o : ℕ) → fault_in d o ms ≡ fault_in d o ns) → (d : Option ℕ) (o : ℕ) → go_on (unopened m) d (λ e. fault_in e o ms) ≡ go_on (unopened m) d (λ e. fault_in e o ns)
    by_depth same None o = refl
    by_depth same (Some d) o = same d o

    by_mark : ((d o : ℕ) → fault_in d o ms ≡ fault_in d o ns) → IsSame m n → fault_in depth outermost (m ∷ ms) ≡ fault_in depth outermost (n ∷ ns)
    by_mark same (inl e) = by_depth same (depth_after depth m) (outermost_after depth outermost m) ∙ ap (λ z. fault_in depth outermost (z ∷ ns)) e
    by_mark same (inr k) =
        ap (λ z. fault_in depth outermost (z ∷ ms)) k.is_own ∙ same depth outermost ∙ ap (λ z. fault_in depth outermost (z ∷ ns)) (sym k.is_other)

-- the braces of what is written out are closed
module _ (ends : ℕ → Bool) where
  itself_keeps : (inside : Bool) (m : Mark) (depth : ℕ) → is_itself inside m ≡ true → depth_after depth m ≡ Some depth
  itself_keeps inside (literal letter) depth e = refl
  itself_keeps inside any depth e = refl
  itself_keeps inside (star again) depth e = refl
  itself_keeps inside (one_of negated ranges) depth e = refl
  itself_keeps inside (opens index) depth e = let never : false ≡ true = e in absurd cc
  itself_keeps inside comma depth e = refl
  itself_keeps inside (closes index) depth e = let never : false ≡ true = e in absurd cc

  closes_one : (index depth : ℕ) (rest : List Mark) → goes_on ends (depth + 1) (closes index ∷ rest) ≡ goes_on ends depth rest
  closes_one index depth rest =
      ap (λ z. goes_on ends z (closes index ∷ rest)) (let q : depth + 1 ≡ suc depth = omega arith in q) ∙ ap (λ z. if_some z (λ d. goes_on ends d rest)) (at_close index depth)

  keeps : {level : Level} {ms : List Mark} {cs : List (List Mark)} → StandFor level ms cs → (depth : ℕ) (rest : List Mark) → goes_on ends depth (ms ++ rest) ≡ goes_on ends depth rest
  keeps nothing depth rest = refl
  keeps (one {inside = inside} {ms = ms} m e r) depth rest =
      ap (goes_on ends depth) (append_assoc ms (m ∷ []) rest) ∙ keeps r depth (m ∷ rest) ∙ ap (λ z. if_some z (λ d. goes_on ends d rest)) (itself_keeps inside m depth e)
  keeps (group {ms = ms} {ns = ns} i j r a) depth rest =
      ap (goes_on ends depth) (append_assoc ms (opens i ∷ (ns ++ closes j ∷ [])) rest) ∙ keeps r depth (opens i ∷ ((ns ++ closes j ∷ []) ++ rest))
      ∙ ap (goes_on ends (depth + 1)) (append_assoc ns (closes j ∷ []) rest) ∙ keeps a (depth + 1) (closes j ∷ rest) ∙ closes_one j depth rest
  keeps (first r) depth rest = keeps r depth rest
  keeps (next {ms = ms} {ns = ns} r a) depth rest =
      ap (goes_on ends depth) (append_assoc ms (comma ∷ ns) rest) ∙ keeps r depth (comma ∷ (ns ++ rest)) ∙ keeps a depth rest

choices_closed : (ms : List Mark) (cs : List (List Mark)) → AreChoices ms cs → are_balanced 0 ms ≡ true
choices_closed ms cs h = ap (are_balanced 0) (sym (append-nil ms)) ∙ keeps (λ d. nat_eq d 0) h 0 []

brace_or_choices : (ms ns : List Mark) (cs : List (List Mark)) (fault : PatternFault) → AreSame ms ns → IsBraceFault ms fault → AreChoices ns cs → ⊥
brace_or_choices ms ns cs fault same f c =
    let never : None ≡ Some fault = sym (no_fault_in ns (choices_closed ns cs c)) ∙ sym (fault_same 0 0 ms ns same) ∙ brace_fault_in ms fault f in cc

-- choices that are the same are as large
as_long : {X : Type 0} (R : X → X → Type 0) (xs ys : List X) → Pairwise R xs ys → length xs ≡ length ys
as_long R [] [] h = refl
as_long R [] (y ∷ ys) h = absurd h
as_long R (x ∷ xs) [] h = absurd h
as_long R (x ∷ xs) (y ∷ ys) h = ap suc (as_long R xs ys h.1)

as_many_marks : (cs ds : List (List Mark)) → ChoicesSame cs ds → mark_count cs ≡ mark_count ds
as_many_marks [] [] h = refl
as_many_marks [] (d ∷ ds) h = absurd h
as_many_marks (c ∷ cs) [] h = absurd h
as_many_marks (c ∷ cs) (d ∷ ds) h = ap (λ z. z + mark_count cs) (as_long IsSame c d h.0) ∙ ap (λ z. length d + z) (as_many_marks cs ds h.1)

not_too_large : (cs ds : List (List Mark)) → ChoicesSame cs ds → AreWithinLimits cs → AreTooLarge ds → ⊥
not_too_large cs ds same l large =
    let long = as_long AreSame cs ds same in
    let count = as_many_marks cs ds same in
    let few = l.choices in
    ⊎_elim (λ many. omega (arith, many, long, few)) (λ both. let many = both.0 in let marks = both.1 in let most = l.marks (omega (arith, many, long)) in omega (arith, marks, count, most)) large

-- so marks have one fault, and none if they have choices
choice_fault_once : (ms ns : List Mark) (fault other : PatternFault) → AreSame ms ns → AreSame ns ms → IsChoiceFault ms fault → IsChoiceFault ns other → fault ≡ other
choice_fault_once ms ns fault other same back (inl f) (inl g) =
    let both : Some fault ≡ Some other = sym (brace_fault_in ms fault f) ∙ fault_same 0 0 ms ns same ∙ brace_fault_in ns other g in cc
choice_fault_once ms ns fault other same back (inl f) (inr g) = absurd (brace_or_choices ms ns g.are.choices fault same f g.are.are)
choice_fault_once ms ns fault other same back (inr f) (inl g) = absurd (brace_or_choices ns ms f.are.choices other back g f.are.are)
choice_fault_once ms ns fault other same back (inr f) (inr g) = f.fault_is ∙ sym g.fault_is

choices_or_fault : {A : Type 0} (o : Separators) (ms ns : List Mark) (choices : List (Choice A)) (fault : PatternFault) → AreSame ms ns → AreSame ns ms → AreChoicesOf o ms choices → IsChoiceFault ns fault → ⊥
choices_or_fault o ms ns choices fault same back f (inl g) = brace_or_choices ns ms f.written_out fault back g f.are
choices_or_fault o ms ns choices fault same back f (inr g) =
    let w = over f.are ns same in
    not_too_large f.written_out g.are.choices (subst (ChoicesSame f.written_out) (one_list ns w.choices g.are.choices w.are g.are.are) w.same) f.limits g.are.many

module _ (o : Syntax) (symbols : List Symbol) where
  symbols_fault_once : (fault other : PatternFault) → IsSymbolsFault o symbols fault → IsSymbolsFault o symbols other → fault ≡ other
  symbols_fault_once fault other (inl f) (inl g) = mark_fault_once o symbols fault other f g
  symbols_fault_once fault other (inl f) (inr g) = absurd (marks_or_fault o symbols g.marks fault g.read f)
  symbols_fault_once fault other (inr f) (inl g) = absurd (marks_or_fault o symbols f.marks other f.read g)
  symbols_fault_once fault other (inr f) (inr g) =
      let one = marks_once o symbols f.marks g.marks f.read g.read in
      let cased = subst (λ z. AreCased o.case_insensitive z f.cased) one f.are_cased in
      choice_fault_once f.cased g.cased fault other (cased_same o.case_insensitive g.marks f.cased g.cased cased g.are_cased) (cased_same o.case_insensitive g.marks g.cased f.cased g.are_cased cased) f.fault_is g.fault_is

  symbols_or_fault : {A : Type 0} (choices : List (Choice A)) (fault : PatternFault) → AreOfSymbols o symbols choices → IsSymbolsFault o symbols fault → ⊥
  symbols_or_fault choices fault f (inl g) = marks_or_fault o symbols f.marks fault f.read g
  symbols_or_fault choices fault f (inr g) =
      let one = marks_once o symbols f.marks g.marks f.read g.read in
      let cased = subst (λ z. AreCased o.case_insensitive z f.cased) one f.are_cased in
      choices_or_fault o.separators f.cased g.cased choices fault (cased_same o.case_insensitive g.marks f.cased g.cased cased g.are_cased) (cased_same o.case_insensitive g.marks g.cased f.cased g.are_cased cased) f.are g.fault_is

module _ (formed : List ℕ → Type 0) (letters : List ℕ → List ℕ) (laws : LetterLaws formed letters) (o : Syntax) (text : List ℕ) where
  pub one_fault : (fault other : PatternFault) → IsFault formed letters o text fault → IsFault formed letters o text other → fault ≡ other
  one_fault fault other f g =
      symbols_fault_once o g.symbols fault other (subst (λ z. IsSymbolsFault o z fault) (symbols_once formed letters laws text f.symbols g.symbols f.read g.read) f.is) g.is

  pub never_both : {A : Type 0} (choices : List (Choice A)) (fault : PatternFault) → IsMeaning formed letters o text choices → IsFault formed letters o text fault → ⊥
  never_both choices fault f g =
      symbols_or_fault o g.symbols choices fault (subst (λ z. AreOfSymbols o z choices) (symbols_once formed letters laws text f.symbols g.symbols f.read g.read) f.are) g.is
