-- What a line says, once its letters are read.
use Rattle.std.proofs.Common.{◌≡◌, ℕ, Bool, false, List, Option, Result, Ok, Err, sym, subst}
use Rattle.std.specs.Prelude.{IfOk}
use Rattle.os_ignore.specs.declared.letter.Letter.{Letter}
use Rattle.os_ignore.specs.declared.line.Line.{Line}
use Rattle.os_ignore.specs.declared.reason.NoPattern.{NoPattern}
use Rattle.os_ignore.specs.Letters.{AreLetters}
use Rattle.os_ignore.specs.Files.{IsLineText, SaysLine, LettersSayLine, HasReason, reason_of}
use Rattle.os_ignore.specs.Lines as lines
use Rattle.os_ignore.specs.Lines.{is_comment}

module _ {A : Type 0} (folds : Bool) (text : List ℕ) (letters : List Letter) (none : is_comment text ≡ false) (read : AreLetters text letters) (number : ℕ) where
  says : (o : Result (Line A) NoPattern) → LettersSayLine folds number letters o → SaysLine folds number text o
  says (Err reason) h = lines.letters none read h
  says (Ok line) h = (h.0, record { no_comment = none; letters = letters; read = read; line_of = h.1 })

  pub said : {E : Type 0} (r : Result (Result (Line A) NoPattern) E) → IfOk r (λ o. LettersSayLine folds number letters o) → IfOk r (λ o. SaysLine folds number text o)
  said (Ok o) h = says o h
  said (Err e) h = tt

module _ {A : Type 0} (line text : List ℕ) (read : IsLineText line text) where
  pub has_reason : (o : Result (Line A) NoPattern) → SaysLine false 1 text o → (reason : Option NoPattern) → reason ≡ reason_of o → HasReason A line reason
  has_reason (Ok l) s reason e = subst (HasReason A line) (sym e) (text, read, l, s.1)
  has_reason (Err r) s reason e = subst (HasReason A line) (sym e) (text, read, s)
