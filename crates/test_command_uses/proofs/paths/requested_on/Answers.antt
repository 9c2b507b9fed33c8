use Rattle.std.proofs.Common.{sym}
use Rattle.test_command_uses.proofs.paths.requested_on.Goals as goal

pub returns-clause-written : goal.returns-clause-written
returns-clause-written g c = rw (sym c.count.ensures, c.new-on.ensures.task, c.new-on.ensures.list, c.new-on.ensures.end, c.new-reader.ensures.inner) at c.run_with-ran.ensures.written
