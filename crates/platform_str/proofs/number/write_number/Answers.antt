use Rattle.std.proofs.Common.{arith}
use Rattle.std.proofs.Output.{has_written_styled_of_eq}
use Rattle.platform_str.proofs.lemmas.InlineTexts.{of_writes}
use Rattle.platform_str.proofs.number.write_number.Goals as goal

pub returns : goal.returns
returns g c = grind (arith, has_written_styled_of_eq, of_writes)
