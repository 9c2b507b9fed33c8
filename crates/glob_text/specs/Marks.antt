-- What the letters of a pattern are: those that match themselves, wildcards, classes, and what writes alternatives.
use Rattle.std.specs.Prelude.{◌≡◌, ℕ, Bool, not, nat_eq, ◌&&◌, cond, List, [], ◌∷◌}
use Rattle.wildcards.specs.declared.range.Range.{Range}
use Rattle.wildcards.specs.Components.{separates}
use Rattle.glob_text.specs.declared.symbol.Symbol.{Symbol}
use Rattle.glob_text.specs.declared.syntax.Syntax.{Syntax}
use Rattle.glob_text.specs.declared.fault.PatternFault.{PatternFault}
use Rattle.glob_text.specs.declared.fault.FaultKind.TheVariants.{DanglingEscape}
use Rattle.glob_text.specs.declared.mark.Kind.{Kind}
use Rattle.glob_text.specs.declared.mark.Kind.TheVariants.{Quote, Star, Question, Bracket, Open, Comma, Close, Literal}
use Rattle.glob_text.specs.declared.mark.Mark as declared
use Rattle.glob_text.specs.declared.mark.Mark.TheVariants as variant
use Rattle.glob_text.specs.ClassText.{IsClass, IsClassFault}
use Rattle.wildcards.specs.Items.{Reads}
use Rattle.glob_text.specs.Symbols.{begins_with}

-- what a pattern is written with: a letter that matches itself; `?`; `*`, and whether another comes right after it; a class, whether it is negated, and its ranges; `{` and `}`, and their byte indices; a comma
pub data Mark : Type 0 where
  literal : ℕ → Mark
  any : Mark
  star : Bool → Mark
  one_of : Bool → List Range → Mark
  opens : ℕ → Mark
  comma : Mark
  closes : ℕ → Mark

-- a backslash quotes the letter after it, unless it is a separator
abbrev pub is_quoting : Syntax → Bool
is_quoting o = o.escapes && not (separates o.separators 0x5C)

-- what a letter is that isn't quoted
abbrev pub kind_of : Bool → ℕ → Kind
kind_of quoting letter =
    cond (quoting && nat_eq letter 0x5C) Quote
    (cond (nat_eq letter 0x2A) Star
    (cond (nat_eq letter 0x3F) Question
    (cond (nat_eq letter 0x5B) Bracket
    (cond (nat_eq letter 0x7B) Open
    (cond (nat_eq letter 0x2C) Comma
    (cond (nat_eq letter 0x7D) Close Literal))))))

module _ (o : Syntax) where
  -- a symbol, by its kind, and what comes after it are a mark, and what comes after that
  abbrev pub MarkAt : Kind → Symbol → List Symbol → Mark → List Symbol → Type 0
  MarkAt Quote x xs mark rest = (y : Symbol) × (mark ≡ literal y.letter) × (xs ≡ y ∷ rest)
  MarkAt Star x xs mark rest = (mark ≡ star (begins_with 0x2A xs)) × (rest ≡ xs)
  MarkAt Question x xs mark rest = (mark ≡ any) × (rest ≡ xs)
  MarkAt Bracket x xs mark rest =
      (negated : Bool) × (ranges : List Range) × (mark ≡ one_of negated ranges) × IsClass o.class_escapes x.index xs negated ranges rest
  MarkAt Open x xs mark rest = (mark ≡ opens x.index) × (rest ≡ xs)
  MarkAt Comma x xs mark rest = (mark ≡ comma) × (rest ≡ xs)
  MarkAt Close x xs mark rest = (mark ≡ closes x.index) × (rest ≡ xs)
  MarkAt Literal x xs mark rest = (mark ≡ literal x.letter) × (rest ≡ xs)

  -- they are none: a backslash at the end, or a class that isn't written right
  abbrev pub MarkFault : Kind → Symbol → List Symbol → PatternFault → Type 0
  MarkFault Quote x xs fault = (xs ≡ []) × (fault ≡ record { kind = DanglingEscape; index = x.index })
  MarkFault Star x xs fault = ⊥
  MarkFault Question x xs fault = ⊥
  MarkFault Bracket x xs fault = IsClassFault o.class_escapes x.index xs fault
  MarkFault Open x xs fault = ⊥
  MarkFault Comma x xs fault = ⊥
  MarkFault Close x xs fault = ⊥
  MarkFault Literal x xs fault = ⊥

  -- the text begins with the mark
  abbrev pub IsMark : List Symbol → Mark → List Symbol → Type 0
  IsMark [] mark rest = ⊥
  IsMark (x ∷ xs) mark rest = MarkAt (kind_of (is_quoting o) x.letter) x xs mark rest

  -- it begins with none
  abbrev pub IsFaultHere : List Symbol → PatternFault → Type 0
  IsFaultHere [] fault = ⊥
  IsFaultHere (x ∷ xs) fault = MarkFault (kind_of (is_quoting o) x.letter) x xs fault

  -- the marks of the text
  abbrev pub AreMarks : List Symbol → List Mark → Type 0
  AreMarks text marks = Reads IsMark text marks []

  -- the first fault of the marks
  pub record IsMarkFault (text : List Symbol) (fault : PatternFault) : Type 0 where
    pub marks : List Mark
    pub left : List Symbol
    pub read : Reads IsMark text marks left
    pub here : IsFaultHere left fault

module _ {A : Type 0} where
  -- what a mark is, without its memory
  abbrev pub mark_of : declared.Mark A → Mark
  mark_of (variant.Literal letter) = literal letter
  mark_of variant.Any = any
  mark_of (variant.Star again) = star again
  mark_of (variant.OneOf members) = one_of members.negated members.ranges.items
  mark_of (variant.Open index) = opens index
  mark_of variant.Comma = comma
  mark_of (variant.Close index) = closes index
