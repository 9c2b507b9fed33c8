use Rattle.std.proofs.Common.{arith}
use Rattle.path_rules.specs.Separators.{separates}
use Rattle.path_rules.proofs.lemmas.Cuts.{none_further}
use Rattle.path_rules.proofs.rules.Rules.skip_lanes.Goals as goal

pub returns-then-len-lt-LANES-clause-plain : goal.returns-then-len-lt-LANES-clause-plain
returns-then-len-lt-LANES-clause-plain c =
    none_further (separates c.args.self) c.args.path.now c.loop-at.at c.lanes_before-len.result c.loop-at.invariant.1 c.lanes_before-len.ensures.plain

pub loop-at-preserved : goal.loop-at-preserved
loop-at-preserved c = (
  omega (arith, c.loop-at-test.true, c.loop-at.invariant.0, c.lanes_before-len.ensures.within),
  none_further (separates c.args.self) c.args.path.now c.loop-at.at c.lanes_before-len.result c.loop-at.invariant.1 c.lanes_before-len.ensures.plain,
)

pub returns-clause-plain : goal.returns-clause-plain
returns-clause-plain c =
    none_further (separates c.args.self) c.args.path.now c.loop-at.at c.lanes_before.result c.loop-at.invariant.1 c.lanes_before.ensures.plain
