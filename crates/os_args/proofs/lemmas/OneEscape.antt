-- What is printed of a string: its one escape on one line.
use Rattle.std.proofs.Common.{◌≡◌, ℕ, List}
use Rattle.os_quote.specs.declared.form.Form.TheVariants.{Line}
use Rattle.os_quote.specs.Escape.{IsLineEscape}
use Rattle.os_quote.proofs.lemmas.Escapes.{one_escape, escape_in_is}
use Rattle.os_args.specs.ErrorText.{shown}

pub shown_is_escape : (units : List ℕ → List ℕ) (s : List ℕ) → IsLineEscape units s (shown units s)
shown_is_escape units s = escape_in_is Line units s

pub shown_escape : (units : List ℕ → List ℕ) (s text : List ℕ) → IsLineEscape units s text → text ≡ shown units s
shown_escape units s text e = one_escape Line units s text (shown units s) e (shown_is_escape units s)
