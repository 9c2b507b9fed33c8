use Rattle.paths_commands.proofs.lemmas.Lines.{IsSoFar}
use Rattle.paths_commands.proofs.components.push_lines.Given as goal

abbrev pub invariant-loop-component : goal.invariant-loop-component
invariant-loop-component g l = IsSoFar g.E.Platform g.E.PathStyle.follows l.fn.components.items l.component-iterator.items l.fn.text.items l.text.items
