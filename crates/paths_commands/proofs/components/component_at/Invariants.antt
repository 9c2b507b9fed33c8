use Rattle.paths_commands.proofs.lemmas.Shown.{IsBefore}
use Rattle.paths_commands.proofs.components.component_at.Given as goal

abbrev pub invariant-loop-component : goal.invariant-loop-component
invariant-loop-component g l = IsBefore l.fn.components.items l.component-iterator.items l.index l.left
