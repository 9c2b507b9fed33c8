use Rattle.osbytes_c.proofs.paths.joins.osb_core_path_join_checked.Goals as goal

pub returns-in-Err-clause-fault : goal.returns-in-Err-clause-fault
returns-in-Err-clause-fault c is =
    let path = c.rejected.ensures.path is in
    record { error = c.in-Err.error; fault = rw (c.in-Some.ensures.1) at c.in-Err.ensures.err; other = path.0; reason = path.1.0; index = path.1.1 }
