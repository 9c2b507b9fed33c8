use Rattle.std.proofs.Common.{arith}
use Rattle.path_rules.proofs.lemmas.ReservedNames.{tight_at, tight_none}
use Rattle.path_rules.proofs.reserved.without_spaces.Goals as goal

pub returns-then-name-at-ne32 : goal.returns-then-name-at-ne32
returns-then-name-at-ne32 c = tight_at c.args.name.now c.loop-at.at (omega arith) c.loop-at.invariant.inside c.if-name-at-ne32.true c.loop-at.invariant.blank

pub returns : goal.returns
returns c = tight_none c.args.name.now c.as_slice.result.now c.as_slice.ensures (λ k low high. c.loop-at.invariant.blank k (omega arith) high)
