-- What an error prints.
use Rattle.std.specs.Prelude.{ℕ, List, ◌++◌, codes, decimal}
use Rattle.os_quote.specs.{declared.error.QuoteError.QuoteError, declared.error.QuoteError.TheVariants.BadEscape, declared.error.QuoteError.TheVariants.NotCanonical, declared.error.QuoteError.TheVariants.Memory}

-- the message for a text that isn't an escape
abbrev pub error_text : QuoteError → List ℕ
error_text (BadEscape index) = codes "bad escape at byte " ++ decimal index
error_text NotCanonical = codes "not the escape of a string"
error_text Memory = codes "out of memory"
