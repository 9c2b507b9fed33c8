use Rattle.osbytes_c.proofs.lemmas.Lines.{ArgumentsSoFar}
use Rattle.osbytes_c.proofs.lines.windows_arguments.write_arguments.Given as goal

-- the name and the arguments so far
abbrev pub invariant-loop-argument : goal.invariant-loop-argument
invariant-loop-argument l = ArgumentsSoFar l.fn.arguments.0 l.fn.arguments.1 l.argument-iterator.1 l.fn.out l.out l.count
