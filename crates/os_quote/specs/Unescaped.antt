-- Strings read from escapes into a buffer that may be too short for them (this project's own words).
use Rattle.std.specs.Prelude.{◌≡◌, ◌≢◌, ℕ, ◌≤◌, List, length, Option, Result, MatchOption, MatchResult}
use Rattle.std.specs.Str.{IsUtf8}
use Rattle.wtf8_core.specs.Truncated.{IsTruncated}
use Rattle.os_quote.specs.{Shown.shown_by, declared.form.Form.Form, declared.form.Form.TheVariants.Text, declared.form.Form.TheVariants.Line, Escape.IsEscapeBy, Escape.IsBadEscapeBy, Escape.IsQuoteFaultBy, declared.error.QuoteError.QuoteError, declared.error.QuoteError.TheVariants.Memory}

-- the buffer has what the text means, truncated to the buffer's length: the string with this escape, if it fits, and else the only string that may have it
pub record IsUnescapedBy (form : Form) (well_formed : List ℕ → Type 0) (units : List ℕ → List ℕ) (text old new : List ℕ) (count : ℕ) : Type 0 where
  pub string : List ℕ
  pub written : IsTruncated string old new count
  pub short : count ≤ length text
  pub escape : count ≤ length old → well_formed string × IsEscapeBy form units string text
  pub only : (s : List ℕ) → well_formed s → IsEscapeBy form units s text → s ≡ string
  pub tokens : (n : ℕ) → ¬ (IsBadEscapeBy (shown_by form) text n)

-- the buffer has what the text means, in each form
abbrev pub IsUnescaped : (List ℕ → Type 0) → (List ℕ → List ℕ) → List ℕ → List ℕ → List ℕ → ℕ → Type 0
IsUnescaped = IsUnescapedBy Text

abbrev pub IsLineUnescaped : (List ℕ → Type 0) → (List ℕ → List ℕ) → List ℕ → List ℕ → List ℕ → ℕ → Type 0
IsLineUnescaped = IsUnescapedBy Line

-- None: the text isn't UTF-8; Ok: the buffer has what the text means; Err: why the text isn't the escape of a string, which is never an allocation failure
abbrev pub AreReadBy : Form → (List ℕ → Type 0) → (List ℕ → List ℕ) → List ℕ → List ℕ → List ℕ → Option (Result ℕ QuoteError) → Type 0
AreReadBy form well_formed units text old new result =
    MatchOption result (¬ (IsUtf8 text)) (λ read. MatchResult read (IsUnescapedBy form well_formed units text old new) (λ fault. IsQuoteFaultBy form well_formed units text fault × (fault ≢ Memory)))
