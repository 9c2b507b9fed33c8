-- A text is read as one list of marks, or has one fault of a mark.
use Rattle.std.proofs.Common.{◌≡◌, ◌⊎◌, inl, inr, ℕ, Bool, List, [], ◌∷◌, length, refl, sym, ap, ◌∙◌, subst, arith}
use Rattle.wildcards.specs.declared.range.Range.{Range}
use Rattle.wildcards.specs.Items.{Reads, concat_of}
use Rattle.wildcards.specs.Reading.{LetterLaws}
use Rattle.glob_text.specs.declared.class_text.Before.{Before}
use Rattle.glob_text.specs.declared.fault.PatternFault.{PatternFault}
use Rattle.glob_text.specs.declared.mark.Kind.{Kind}
use Rattle.glob_text.specs.declared.mark.Kind.TheVariants.{Quote, Star, Question, Bracket, Open, Comma, Close, Literal}
use Rattle.glob_text.specs.declared.symbol.Symbol.{Symbol}
use Rattle.glob_text.specs.declared.syntax.Syntax.{Syntax}
use Rattle.glob_text.specs.ClassText.{ClassReading, broken, closed, member, member_at, IsClass, IsClassFault, IsMember}
use Rattle.glob_text.specs.Marks.{Mark, literal, one_of, is_quoting, kind_of, AreMarks, IsFaultHere, IsMark, IsMarkFault, MarkAt, MarkFault}
use Rattle.glob_text.specs.Symbols.{IsSymbol}

module _ {S X : Type 0} (Item : S → X → S → Type 0) (Ends : S → Type 0)
    (once : (s : S) (x y : X) (t u : S) → Item s x t → Item s y u → (x ≡ y) × (t ≡ u))
    (last : (s : S) (x : X) (t : S) → Ends s → Item s x t → ⊥) where
  -- what is read up to an end is one list, and has one end
  read_once : (s : S) (xs ys : List X) (t u : S) → Reads Item s xs t → Ends t → Reads Item s ys u → Ends u → (xs ≡ ys) × (t ≡ u)
  read_once s [] [] t u f e g d = (refl, sym f ∙ g)
  read_once s [] (y ∷ ys) t u f e g d = absurd (last s y g.0 (subst Ends (sym f) e) g.1)
  read_once s (x ∷ xs) [] t u f e g d = absurd (last s x f.0 (subst Ends (sym g) d) f.1)
  read_once s (x ∷ xs) (y ∷ ys) t u f e g d =
      let same = once s x y f.0 g.0 f.1 g.1 in
      let more = read_once g.0 xs ys t u (subst (λ z. Reads Item z xs t) same.1 f.2) e g.2 d in
      (ap (λ z. z ∷ xs) same.0 ∙ ap (λ z. y ∷ z) more.0, more.1)

same_head : {X : Type 0} {x y : X} {xs ys : List X} → x ∷ xs ≡ y ∷ ys → x ≡ y
same_head e = cc

same_tail : {X : Type 0} {x y : X} {xs ys : List X} → x ∷ xs ≡ y ∷ ys → xs ≡ ys
same_tail e = cc

-- the class ends, well or not
abbrev IsEnd : ClassReading → Type 0
IsEnd (broken fault) = Unit {0}
IsEnd (closed rest) = Unit {0}
IsEnd (member ranges before rest) = ⊥

member_once : (rs ss : List Range) (p q : Before × List Symbol) → member rs p.0 p.1 ≡ member ss q.0 q.1 → (rs ≡ ss) × (p ≡ q)
member_once rs ss p q e =
    let ranges : rs ≡ ss = cc in
    let before : p.0 ≡ q.0 = cc in
    let left : p.1 ≡ q.1 = cc in
    (ranges, ap (λ z. (z, p.1)) before ∙ ap (λ z. (q.0, z)) left)

module _ (quotes : Bool) (index : ℕ) where
  abbrev reading : Before × List Symbol → ClassReading
  reading p = member_at quotes index p.0 p.1

  members_once : (start : Before × List Symbol) (rss sss : List (List Range)) (p q : Before × List Symbol) (a b : ClassReading) → IsEnd a → IsEnd b → Reads (IsMember quotes index) start rss p → reading p ≡ a
      → Reads (IsMember quotes index) start sss q → reading q ≡ b → (rss ≡ sss) × (a ≡ b)
  members_once start rss sss p q a b i j f e g d =
      let same = read_once (IsMember quotes index) (λ s. IsEnd (reading s)) (λ s x y t u h k. member_once x y t u (sym h ∙ k)) (λ s x t h k. subst IsEnd k h) start rss sss p q f (subst IsEnd (sym e) i) g (subst IsEnd (sym d) j) in
      (same.0, sym e ∙ ap reading same.1 ∙ d)

  class_once : (text : List Symbol) (negated other : Bool) (rs ss : List Range) (xs ys : List Symbol) → IsClass quotes index text negated rs xs → IsClass quotes index text other ss ys → (negated ≡ other) × (rs ≡ ss) × (xs ≡ ys)
  class_once text negated other rs ss xs ys f g =
      let same = members_once _ f.read.lists g.read.lists f.left g.left (closed xs) (closed ys) tt tt f.read.read f.ends g.read.read g.ends in
      let ends = same.1 in (
        f.sign ∙ sym g.sign,
        f.read.joined ∙ ap concat_of same.0 ∙ sym g.read.joined,
        let rest : xs ≡ ys = cc in rest,
      )

  class_fault_once : (text : List Symbol) (fault other : PatternFault) → IsClassFault quotes index text fault → IsClassFault quotes index text other → fault ≡ other
  class_fault_once text fault other f g =
      let same = (members_once _ f.read.lists g.read.lists f.left g.left (broken fault) (broken other) tt tt f.read.read f.stops g.read.read g.stops).1 in cc

  class_or_fault : (text : List Symbol) (negated : Bool) (rs : List Range) (xs : List Symbol) (fault : PatternFault) → IsClass quotes index text negated rs xs → IsClassFault quotes index text fault → ⊥
  class_or_fault text negated rs xs fault f g =
      let never = (members_once _ f.read.lists g.read.lists f.left g.left (closed xs) (broken fault) tt tt f.read.read f.ends g.read.read g.stops).1 in cc

module _ (o : Syntax) where
  at_once : (k : Kind) (x : Symbol) (xs : List Symbol) (m n : Mark) (rest left : List Symbol) → MarkAt o k x xs m rest → MarkAt o k x xs n left → (m ≡ n) × (rest ≡ left)
  at_once Quote x xs m n rest left f g =
      let both = sym f.2 ∙ g.2 in
      (f.1 ∙ ap (λ z. literal z.letter) (same_head both) ∙ sym g.1, same_tail both)
  at_once Star x xs m n rest left f g = (f.0 ∙ sym g.0, f.1 ∙ sym g.1)
  at_once Question x xs m n rest left f g = (f.0 ∙ sym g.0, f.1 ∙ sym g.1)
  at_once Bracket x xs m n rest left f g =
      let same = class_once o.class_escapes x.index xs f.0 g.0 f.1 g.1 rest left f.3 g.3 in
      (f.2 ∙ ap (λ z. one_of z f.1) same.0 ∙ ap (one_of g.0) same.1 ∙ sym g.2, same.2)
  at_once Open x xs m n rest left f g = (f.0 ∙ sym g.0, f.1 ∙ sym g.1)
  at_once Comma x xs m n rest left f g = (f.0 ∙ sym g.0, f.1 ∙ sym g.1)
  at_once Close x xs m n rest left f g = (f.0 ∙ sym g.0, f.1 ∙ sym g.1)
  at_once Literal x xs m n rest left f g = (f.0 ∙ sym g.0, f.1 ∙ sym g.1)

  faults_once : (k : Kind) (x : Symbol) (xs : List Symbol) (fault other : PatternFault) → MarkFault o k x xs fault → MarkFault o k x xs other → fault ≡ other
  faults_once Quote x xs fault other f g = f.1 ∙ sym g.1
  faults_once Star x xs fault other f g = absurd f
  faults_once Question x xs fault other f g = absurd f
  faults_once Bracket x xs fault other f g = class_fault_once o.class_escapes x.index xs fault other f g
  faults_once Open x xs fault other f g = absurd f
  faults_once Comma x xs fault other f g = absurd f
  faults_once Close x xs fault other f g = absurd f
  faults_once Literal x xs fault other f g = absurd f

  at_or_fault : (k : Kind) (x : Symbol) (xs : List Symbol) (m : Mark) (rest : List Symbol) (fault : PatternFault) → MarkAt o k x xs m rest → MarkFault o k x xs fault → ⊥
  at_or_fault Quote x xs m rest fault f g = let never = sym f.2 ∙ g.0 in cc
  at_or_fault Star x xs m rest fault f g = g
  at_or_fault Question x xs m rest fault f g = g
  at_or_fault Bracket x xs m rest fault f g = class_or_fault o.class_escapes x.index xs f.0 f.1 rest fault f.3 g
  at_or_fault Open x xs m rest fault f g = g
  at_or_fault Comma x xs m rest fault f g = g
  at_or_fault Close x xs m rest fault f g = g
  at_or_fault Literal x xs m rest fault f g = g

  mark_once : (text : List Symbol) (m n : Mark) (rest left : List Symbol) → IsMark o text m rest → IsMark o text n left → (m ≡ n) × (rest ≡ left)
  mark_once [] m n rest left f g = absurd f
  mark_once (x ∷ xs) m n rest left f g = at_once (kind_of (is_quoting o) x.letter) x xs m n rest left f g

  here_once : (text : List Symbol) (fault other : PatternFault) → IsFaultHere o text fault → IsFaultHere o text other → fault ≡ other
  here_once [] fault other f g = absurd f
  here_once (x ∷ xs) fault other f g = faults_once (kind_of (is_quoting o) x.letter) x xs fault other f g

  mark_or_fault : (text : List Symbol) (m : Mark) (rest : List Symbol) (fault : PatternFault) → IsMark o text m rest → IsFaultHere o text fault → ⊥
  mark_or_fault [] m rest fault f g = f
  mark_or_fault (x ∷ xs) m rest fault f g = at_or_fault (kind_of (is_quoting o) x.letter) x xs m rest fault f g

  -- the text is read, or a fault is there
  abbrev Stops : List Symbol → Type 0
  Stops text = (text ≡ []) ⊎ ((fault : PatternFault) × IsFaultHere o text fault)

  no_mark : (text : List Symbol) (m : Mark) (rest : List Symbol) → Stops text → IsMark o text m rest → ⊥
  no_mark text m rest (inl e) f = subst (λ z. IsMark o z m rest) e f
  no_mark text m rest (inr h) f = mark_or_fault text m rest h.0 f h.1

  all_once : (text : List Symbol) (ms ns : List Mark) (t u : List Symbol) → Reads (IsMark o) text ms t → Stops t → Reads (IsMark o) text ns u → Stops u → (ms ≡ ns) × (t ≡ u)
  all_once text ms ns t u f e g d = read_once (IsMark o) Stops mark_once no_mark text ms ns t u f e g d

  pub marks_once : (text : List Symbol) (ms ns : List Mark) → AreMarks o text ms → AreMarks o text ns → ms ≡ ns
  marks_once text ms ns f g = (all_once text ms ns [] [] f (inl refl) g (inl refl)).0

  pub mark_fault_once : (text : List Symbol) (fault other : PatternFault) → IsMarkFault o text fault → IsMarkFault o text other → fault ≡ other
  mark_fault_once text fault other f g =
      let same = (all_once text f.marks g.marks f.left g.left f.read (inr (fault, f.here)) g.read (inr (other, g.here))).1 in
      here_once g.left fault other (subst (λ z. IsFaultHere o z fault) same f.here) g.here

  pub marks_or_fault : (text : List Symbol) (ms : List Mark) (fault : PatternFault) → AreMarks o text ms → IsMarkFault o text fault → ⊥
  marks_or_fault text ms fault f g =
      let same = (all_once text ms g.marks [] g.left f (inl refl) g.read (inr (fault, g.here))).1 in
      subst (λ z. IsFaultHere o z fault) (sym same) g.here

abbrev symbol_with : ℕ → ℕ → Symbol
symbol_with letter index = record { letter = letter; index = index }

module _ (formed : List ℕ → Type 0) (letters : List ℕ → List ℕ) (laws : LetterLaws formed letters) (text : List ℕ) where
  symbol_once : (left : List ℕ) (x y : Symbol) (xs ys : List ℕ) → IsSymbol formed letters text left x xs → IsSymbol formed letters text left y ys → (x ≡ y) × (xs ≡ ys)
  symbol_once left x y xs ys f g =
      let both = sym f.letter.letters_are ∙ g.letter.letters_are in
      let index : x.index ≡ y.index = omega (arith, f.index, g.index) in (
        ap (λ z. symbol_with z x.index) (same_head both) ∙ ap (symbol_with y.letter) index,
        laws.once xs ys f.letter.formed_after g.letter.formed_after (same_tail both),
      )

  no_symbol : (left : List ℕ) (x : Symbol) (xs : List ℕ) → left ≡ [] → IsSymbol formed letters text left x xs → ⊥
  no_symbol left x xs e f = let l = f.letter.shorter in omega (arith, l, ap length e)

  pub symbols_once : (xs ys : List Symbol) → Reads (IsSymbol formed letters text) text xs [] → Reads (IsSymbol formed letters text) text ys [] → xs ≡ ys
  symbols_once xs ys f g = (read_once (IsSymbol formed letters text) (λ left. left ≡ []) symbol_once no_symbol text xs ys [] [] f refl g refl).0
