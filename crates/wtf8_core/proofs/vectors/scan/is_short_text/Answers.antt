use Rattle.wtf8_core.proofs.{Common.arith, Common.nat_tests, lemmas.vectors.Windows.past_end}
use Rattle.wtf8_core.specs.declared.vectors.Encoding.TheVariants.{Utf8}
use Rattle.wtf8_core.proofs.vectors.scan.is_short_text.Goals as goal

pub returns-then-bytes : goal.returns-then-bytes
returns-then-bytes c t = past_end Utf8 c.args.bytes.now c.len_of_few.result (grind (arith, nat_tests, t)) c.len_of_few.ensures
