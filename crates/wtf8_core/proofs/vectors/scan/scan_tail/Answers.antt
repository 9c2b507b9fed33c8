use Rattle.wtf8_core.proofs.{Common.◌+◌, Common.arith, Common.refl, lemmas.vectors.Windows.past_end, lemmas.vectors.Windows.ascii_to_end}
use Rattle.wtf8_core.proofs.vectors.scan.scan_tail.Goals as goal

pub returns-then-kept-bytes-clause-prefix : goal.returns-then-kept-bytes-clause-prefix
returns-then-kept-bytes-clause-prefix c =
    past_end c.args.encoding c.args.bytes.now (c.args.at + c.window_len-kept.result) (omega (arith, c.if-kept-bytes.true)) (c.window_len-kept.ensures.kept c.requires.kept)

pub returns-then-is_ascii_to_end-clause-prefix : goal.returns-then-is_ascii_to_end-clause-prefix
returns-then-is_ascii_to_end-clause-prefix c =
    ascii_to_end c.args.encoding c.args.bytes.now c.args.at c.requires.from c.requires.short (c.if-is_ascii_to_end.ensures refl) c.requires.kept
