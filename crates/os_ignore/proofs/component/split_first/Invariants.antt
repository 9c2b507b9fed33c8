use Rattle.os_ignore.proofs.lemmas.Cuts.{NoneBelow}
use Rattle.os_ignore.proofs.component.split_first.Given as goal

abbrev pub invariant-loop-i : goal.invariant-loop-i
invariant-loop-i l = NoneBelow l.separator l.text l.i
