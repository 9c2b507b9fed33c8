use Rattle.std.proofs.Common.{length}
use Rattle.path_building.proofs.lemmas.CommonBases.{all_shared, last_above, next_above, top_left}
use Rattle.path_building.proofs.common_bases.front_of.Goals as goal

pub loop-above-init : goal.loop-above-init
loop-above-init c = λ other p. record { sharing = all_shared c.args.style c.args.base.now other; parts = p }

pub returns-in_default : goal.returns-in_default
returns-in_default c = λ other p b. top_left c.args.style c.args.base.now other c.loop-above.front.now (length c.loop-above.left.items) (c.loop-above.invariant other p) b c.in_default.ensures

pub loop-above-preserved : goal.loop-above-preserved
loop-above-preserved c = λ other p. next_above c.args.style c.args.base.now other c.loop-above.front.now c.in-Some.above.now c.loop-above.left.items c.next.new.self.items _ c.in-Some-next.ensures.steps.0 (c.loop-above.invariant other p) c.in-Some.ensures

pub returns-in_default-next : goal.returns-in_default-next
returns-in_default-next c = λ other p b. last_above c.args.style c.args.base.now other c.loop-above.front.now c.in-Some.above.now c.loop-above.left.items c.in_default-next.ensures.steps.0.0 (c.loop-above.invariant other p) c.in-Some.ensures
