use Rattle.std.proofs.Common.{nat_eq}
use Rattle.path_rules.proofs.lemmas.Cuts.{NoneBelow}
use Rattle.path_rules.proofs.reserved.before_dot.Given as goal

abbrev pub invariant-loop-i : goal.invariant-loop-i
invariant-loop-i l = NoneBelow (λ b. nat_eq b 0x2E) l.name l.i
