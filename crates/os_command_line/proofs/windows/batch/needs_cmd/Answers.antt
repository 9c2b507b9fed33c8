use Rattle.os_command_line.proofs.lemmas.WindowsBatch.{either}
use Rattle.os_command_line.proofs.windows.batch.needs_cmd.Goals as goal

pub returns : goal.returns
returns c = either c.ends_in_batch-batch.result c.ends_in_dots-dots.result c.ends_in_batch-batch.ensures c.ends_in_dots-dots.ensures
