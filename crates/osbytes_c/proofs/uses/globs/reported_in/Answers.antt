use Rattle.osbytes_c.proofs.lemmas.Built.{there}
use Rattle.osbytes_c.proofs.lemmas.GlobSets.{patterns_are_strings, paths_are_strings, fault_of_strings}
use Rattle.osbytes_c.proofs.uses.globs.reported_in.Goals as goal

pub returns-in-0-clause-reported : goal.returns-in-0-clause-reported
returns-in-0-clause-reported c = there (c.osb_core_glob_matches.ensures.written.0 c.in-0.is)

pub returns-in-0-clause-each : goal.returns-in-0-clause-each
returns-in-0-clause-each c =
    let reported = there (c.osb_core_glob_matches.ensures.written.0 c.in-0.is) in
    (patterns_are_strings reported.are_compiled, paths_are_strings reported.are_reported)

pub returns-in_default-clause-other : goal.returns-in_default-clause-other
returns-in_default-clause-other c = λ is. fault_of_strings (c.osb_core_glob_matches.ensures.pattern is)
