use Rattle.platform_str.proofs.Common.{◌+◌, ◌++◌, subst, length, arith}
use Rattle.std.proofs.Common.{◌-◌}
use borrow.Rule.Slice.PartMut.{put_mid}
use Rattle.wtf8_core.specs.Truncated.{IsTruncated}
use Rattle.wtf8_core.proofs.lemmas.buffers.Truncated.{all_written}
use Rattle.platform_str.proofs.wide_buffer.push_truncated.Goals as goal

pub returns-then-len-buffer-clause-written : goal.returns-then-len-buffer-clause-written
returns-then-len-buffer-clause-written c = λ text old h.
    let count = c.args.count in
    let more = c.args.units.now in
    let n = count + length more - count in
    subst (λ k. IsTruncated (text ++ more) old (put_mid count n c.args.buffer.now c.copy_from_slice.new.self) k) (omega arith)
    (all_written text old c.args.buffer.now count h more c.copy_from_slice.new.self n c.copy_from_slice.ensures.after (omega arith) (omega (arith, c.if-len-buffer.true)))
