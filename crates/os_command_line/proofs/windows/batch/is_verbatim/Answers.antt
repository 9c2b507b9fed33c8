use Rattle.std.proofs.Common.{subst}
use Rattle.os_command_line.specs.WindowsSteps.{TakesUnit}
use Rattle.os_command_line.proofs.lemmas.WindowsBatch.{both_ways, verbatim_by}
use Rattle.os_command_line.proofs.windows.batch.is_verbatim.Goals as goal

pub returns : goal.returns
returns c =
    let first = subst (λ us. TakesUnit us c.take_unit-first.result c.take_unit-first.new.units) c.encode_wide-units.ensures.units c.take_unit-first.ensures in
    both_ways c.begins_verbatim.ensures (verbatim_by _ _ _ _ _ _ _ _ _ first c.take_unit-second.ensures c.take_unit-third.ensures c.take_unit-fourth.ensures)
