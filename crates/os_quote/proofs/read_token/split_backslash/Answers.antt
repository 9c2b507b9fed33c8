use Rattle.os_quote.proofs.{Common.subst, Common.HasNoBackslash, lemmas.Readings.cut_of_text, lemmas.Texts.shown_unchanged}
use Rattle.os_quote.proofs.read_token.split_backslash.Goals as goal

pub from_utf8_unchecked-prefix-requires : goal.from_utf8_unchecked-prefix-requires
from_utf8_unchecked-prefix-requires c = (cut_of_text c.utf8.text c.as_bytes.ensures.value c.in_ok-prefix.ensures).prefix_text

pub from_utf8_unchecked-requires : goal.from_utf8_unchecked-requires
from_utf8_unchecked-requires c = (cut_of_text c.utf8.text c.as_bytes.ensures.value c.in_ok-prefix.ensures).after_text

pub returns-in_err-prefix : goal.returns-in_err-prefix
returns-in_err-prefix c = rw c.from_residual.ensures (shown_unchanged c.args.text.now c.utf8.text (subst HasNoBackslash c.as_bytes.ensures.value c.in_err-prefix.ensures))

pub returns : goal.returns
returns c = rw (c.from_utf8_unchecked-prefix.ensures, c.from_utf8_unchecked.ensures) (cut_of_text c.utf8.text c.as_bytes.ensures.value c.in_ok-prefix.ensures)
