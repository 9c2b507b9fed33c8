use Rattle.wtf8_core.proofs.{Common.arith, lemmas.vectors.Windows.copied, lemmas.vectors.Windows.more, lemmas.vectors.Windows.zeros}
use Rattle.wtf8_core.proofs.vectors.scan.window_len.Goals as goal

pub put_in_zeros-requires-clause-zeros : goal.put_in_zeros-requires-clause-zeros
put_in_zeros-requires-clause-zeros c = zeros 68

pub returns-clause-kept : goal.returns-clause-kept
returns-clause-kept c k =
    let e = c.allowed_in_block.ensures in
    let put = c.put_in_zeros.ensures in
    more c.args.encoding c.args.bytes.now c.args.at _ c.allowed_in_block.result
    (λ i h. copied _ c.args.bytes.now c.args.at c.min-before.result c.min-after.result c.requires c.min-before.ensures c.min-after.ensures put.before put.copied i (omega (arith, h, e.within)))
    c.args.at (omega arith) (omega arith) e.pattern k
