use Rattle.std.proofs.{Common.◌+◌, Common.refl, Common.arith, lemmas.Bool.false≢true, lemmas.List.length-take-le}
use Rattle.os_str_ext.proofs.lemmas.Needles.{none_by_byte, ends_by_byte, last_there, ends_before, last_before}
use Rattle.os_str_ext.proofs.needle.last_by_end.Goals as goal

pub returns-in_default : goal.returns-in_default
returns-in_default c =
    let low = c.if-needle-lt2.false in
    λ k _ _ o. none_by_byte c.args.bytes.now c.args.needle.now c.loop.end c.loop.invariant.0 (omega arith) c.loop.invariant.1 (rw c.split_at.ensures.front at c.in_default.ensures) k o

pub returns-then-ends_at : goal.returns-then-ends_at
returns-then-ends_at c =
    let low = c.if-needle-lt2.false in
    let found = rw c.split_at.ensures.front at c.in-Some.ensures in
    let high = found.0.high in
    let size = length-take-le c.loop.end c.args.bytes.now c.loop.invariant.0 in
    let le = c.loop.invariant.0 in
    let there = c.if-ends_at.ensures.0 refl in
    last_there c.args.bytes.now c.args.needle.now (c.in-Some.at + 1) (omega arith) (ends_by_byte c.args.bytes.now c.args.needle.now c.loop.end c.in-Some.at c.loop.invariant.0 (omega arith) c.loop.invariant.1 found.0) there.0 there.1

pub loop-preserved : goal.loop-preserved
loop-preserved c =
    let low = c.if-needle-lt2.false in
    let found = rw c.split_at.ensures.front at c.in-Some.ensures in
    let high = found.0.high in
    let size = length-take-le c.loop.end c.args.bytes.now c.loop.invariant.0 in
    let le = c.loop.invariant.0 in (
      omega arith,
      ends_before c.args.bytes.now c.args.needle.now c.in-Some.at (omega arith) (ends_by_byte c.args.bytes.now c.args.needle.now c.loop.end c.in-Some.at c.loop.invariant.0 (omega arith) c.loop.invariant.1 found.0) (λ there. false≢true (c.if-ends_at.ensures.1 there)),
    )

pub returns : goal.returns
returns c = last_before c.args.bytes.now c.args.needle.now c.loop.end c.loop.invariant.0 c.loop.invariant.1 _ (rw c.split_at-2.ensures.front at c.rfind-2.ensures)
