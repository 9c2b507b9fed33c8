use Rattle.path_building.proofs.full_paths.absolute.Goals as goal

pub returns-clause-ok : goal.returns-clause-ok
returns-clause-ok g c = rw (← c.new.ensures.style, ← c.new.ensures.whole) c.full_path.ensures.ok

pub returns-clause-err : goal.returns-clause-err
returns-clause-err g c = rw (← c.new.ensures.style, ← c.new.ensures.whole) c.full_path.ensures.err
