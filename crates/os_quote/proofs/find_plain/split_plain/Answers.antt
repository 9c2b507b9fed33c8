use Rattle.os_quote.proofs.{Common.arith, Common.take-append-drop, Common.length-take-le, lemmas.PlainBytes.plain_prefix, lemmas.PlainBytes.plain_is_text}
use Rattle.os_quote.proofs.find_plain.split_plain.Goals as goal

pub from_utf8_unchecked-requires : goal.from_utf8_unchecked-requires
from_utf8_unchecked-requires c = grind (arith, plain_is_text, plain_prefix)

pub returns : goal.returns
returns c = grind (arith, plain_prefix, take-append-drop, length-take-le)
