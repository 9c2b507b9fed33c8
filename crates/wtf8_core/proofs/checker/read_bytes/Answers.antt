use Rattle.wtf8_core.proofs.Common.{◌++◌, take, arith, common_steps, nat_tests}
use Rattle.wtf8_core.proofs.lemmas.table.Pieces.{one_more_read, read_fault}
use Rattle.wtf8_core.proofs.checker.read_bytes.Goals as goal

pub returns-in-Err : goal.returns-in-Err
returns-in-Err c b h =
    let l = c.loop-byte in
    read_fault b c.args.bytes.now l.byte-index c.in-Err.fault (omega arith) (c.in-Err.ensures (b ++ take l.byte-index c.args.bytes.now) (l.invariant b h))

pub loop-byte-preserved : goal.loop-byte-preserved
loop-byte-preserved c b h = grind (arith, nat_tests, common_steps, one_more_read, c.in-Ok.ensures)
