use Rattle.test_command_uses.proofs.listing.run_over.Goals as goal

pub returns-clause-stopped : goal.returns-clause-stopped
returns-clause-stopped g c = rw (c.new.ensures, c.new-reader.ensures.inner) at c.run.ensures.stopped
