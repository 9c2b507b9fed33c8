use Rattle.test_command_uses.proofs.paths.ask.Goals as goal

pub returns-clause-written : goal.returns-clause-written
returns-clause-written g c = rw (c.new.ensures.task, c.new.ensures.list, c.new.ensures.end, c.new-reader.ensures.inner) at c.run.ensures.written

pub returns-clause-stopped : goal.returns-clause-stopped
returns-clause-stopped g c = rw (c.new.ensures.task, c.new.ensures.list, c.new.ensures.end, c.new-reader.ensures.inner) at c.run.ensures.stopped
