use Rattle.std.proofs.Common.{◌≡◌, ◌++◌, All, length, map}
use Rattle.osbytes_commands.specs.Lines.{IsUnit, unit_lines}
use Rattle.osbytes_commands.proofs.raw.read_units.Given as goal

abbrev pub invariant-loop-rest : goal.invariant-loop-rest
invariant-loop-rest g l = record {
  joined : l.input ≡ unit_lines g.E.Target.os (map g.E.Target.number l.units.items) ++ l.rest;
  units : All (IsUnit g.E.Target.os) (map g.E.Target.number l.units.items);
}

abbrev pub decreases-loop-rest : goal.decreases-loop-rest
decreases-loop-rest g l = length l.rest
