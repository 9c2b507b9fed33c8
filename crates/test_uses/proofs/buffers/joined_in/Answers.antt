use Rattle.std.proofs.Common.{[], ◌++◌, length, refl, sym, ◌∙◌, arith}
use Rattle.std.proofs.lemmas.List.{take_all}
use Rattle.wtf8_core.specs.Truncated.{IsTruncated}
use Rattle.test_uses.proofs.buffers.joined_in.Goals as goal

pub returns-then-len-buffer : goal.returns-then-len-buffer
returns-then-len-buffer c =
    let old = c.args.buffer.now in
    let none : IsTruncated [] old old 0 = record { same_length = refl; count_is = refl; prefix = take_all (length old) [] (omega arith); after = refl } in
    let first = c.push_truncated-count.ensures.written [] old none in
    let both = c.push_truncated-len.ensures.written _ old first in
    let size = both.same_length in
    let count = both.count_is in
    sym both.prefix ∙ take_all (length old) (c.args.a.now ++ c.args.b.now) (omega (arith, c.if-len-buffer.true))
