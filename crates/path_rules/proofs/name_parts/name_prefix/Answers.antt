use Rattle.std.proofs.Common.{refl, arith}
use Rattle.path_rules.proofs.lemmas.Dots.{prefix_at, prefix_whole}
use Rattle.path_rules.proofs.name_parts.name_prefix.Goals as goal

pub returns-then-name-at-eq46 : goal.returns-then-name-at-eq46
returns-then-name-at-eq46 c =
    prefix_at c.args.name.now _ c.loop-at.at (omega arith) (omega arith) refl c.if-name-at-eq46.true c.loop-at.invariant.no_dot c.loop-at.invariant.other

pub returns : goal.returns
returns c = prefix_whole c.args.name.now c.loop-at.at (omega arith) c.loop-at.invariant.no_dot
