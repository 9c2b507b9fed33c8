use Rattle.os_str_ext.proofs.Common.{◌≡◌, repeat}
use Rattle.os_str_ext.proofs.repeat.repeat.Given as goal

abbrev pub invariant-loop : goal.invariant-loop
invariant-loop g l = g.E.Platform.well_formed l.vec.items × (g.E.Platform.units l.vec.items ≡ repeat l.counter (g.E.Platform.units l.encoded))
