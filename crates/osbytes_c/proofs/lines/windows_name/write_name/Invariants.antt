use Rattle.std.proofs.Common.{◌∷◌}
use Rattle.wtf8_core.specs.UnitsOf.{units_of}
use Rattle.platform_str.specs.Strings.{bytes}
use Rattle.platform_str.proofs.lemmas.Pushing.{PushesRest}
use Rattle.osbytes_c.proofs.lines.windows_name.write_name.Given as goal

-- the quotation mark and the units so far
abbrev pub invariant-loop-unit : goal.invariant-loop-unit
invariant-loop-unit l = PushesRest l.fn.out 0 l.out l.count l.unit-iterator (0x22 ∷ units_of (bytes l.name))
