use Rattle.std.proofs.Common.{◌-◌, arith}
use Rattle.path_rules.proofs.lemmas.Shared.{alike_further, alike_less}
use Rattle.path_rules.proofs.shared.shared_by.Goals as goal

pub returns-then-len-clause-same : goal.returns-then-len-clause-same
returns-then-len-clause-same g c =
    alike_further c.args.a.now c.args.b.now c.loop-at.at c.alike_len-len.result c.loop-at.invariant.1 c.alike_len-len.ensures.alike

pub loop-at-preserved : goal.loop-at-preserved
loop-at-preserved g c = (
  omega (arith, c.loop-at-test.true),
  alike_further c.args.a.now c.args.b.now c.loop-at.at g.row.N c.loop-at.invariant.1 (λ k l. c.alike_len-len.ensures.alike k (omega (arith, l, c.if-len.false))),
)

pub returns-clause-same : goal.returns-clause-same
returns-clause-same g c =
    let a = c.args.a.now in
    let b = c.args.b.now in
    let last = c.args.end - g.row.N in
    alike_further a b last c.alike_len.result
    (alike_less a b c.loop-at.at last (omega (arith, c.loop-at-test.false, c.requires.room)) c.loop-at.invariant.1) c.alike_len.ensures.alike
