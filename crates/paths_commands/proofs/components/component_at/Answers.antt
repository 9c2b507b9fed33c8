use Rattle.std.proofs.Common.{ap, arith}
use Rattle.path_rules.specs.Left.{Left}
use Rattle.paths_commands.proofs.lemmas.Shown.{none_before, one_before, at_index, past_end}
use Rattle.paths_commands.proofs.components.component_at.Goals as goal

pub loop-component-init : goal.loop-component-init
loop-component-init g c = none_before _ _ _ (ap (λ (l : Left). l.items) c.into_iter-component-iterator.ensures.into_iter_gives)

pub loop-component-preserved : goal.loop-component-preserved
loop-component-preserved g c = one_before _ _ _ _ _ _ _ c.in-Some.ensures.steps.0 (omega (arith, c.if-left-eq0.false)) c.loop-component.invariant

pub returns-then-left-eq0 : goal.returns-then-left-eq0
returns-then-left-eq0 g c = at_index _ _ _ _ _ _ c.in-Some.ensures.steps.0 (omega (arith, c.if-left-eq0.true)) c.loop-component.invariant

pub returns : goal.returns
returns g c = past_end _ _ _ _ c.in-None.ensures.steps.0.0 c.loop-component.invariant
