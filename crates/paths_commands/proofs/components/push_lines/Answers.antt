use Rattle.std.proofs.Common.{ap}
use Rattle.path_rules.specs.Left.{Left}
use Rattle.paths_commands.proofs.lemmas.Lines.{at_start, after_line, at_end}
use Rattle.paths_commands.proofs.components.push_lines.Goals as goal

pub loop-component-init : goal.loop-component-init
loop-component-init g c = at_start g.E.Platform g.E.PathStyle.follows _ _ _ (ap (λ (l : Left). l.items) c.into_iter-component-iterator.ensures.into_iter_gives)

pub loop-component-preserved : goal.loop-component-preserved
loop-component-preserved g c = after_line g.E.Platform g.E.PathStyle.follows _ _ _ _ _ _ _ _ c.in-Some.ensures.steps.0 c.loop-component.invariant c.component_text.ensures c.in_ok-push_line.ensures.line

pub returns : goal.returns
returns g c = at_end g.E.Platform g.E.PathStyle.follows _ _ _ _ c.in-None.ensures.steps.0.0 c.loop-component.invariant
