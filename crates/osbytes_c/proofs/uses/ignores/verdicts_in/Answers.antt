use Rattle.osbytes_c.proofs.lemmas.Ignores.{reported_there, more_paths}
use Rattle.osbytes_c.proofs.uses.ignores.verdicts_in.Goals as goal

pub returns-in-0-clause-reported : goal.returns-in-0-clause-reported
returns-in-0-clause-reported c =
    let done = c.osb_core_ignore_matches.ensures.written.0 c.in-0.is in
    reported_there c.args.file.now c.args.flags.now c.args.paths.now c.args.array.now c.osb_core_ignore_matches.new.out _ done.0 done.1

pub returns-in_default-clause-room : goal.returns-in_default-clause-room
returns-in_default-clause-room c = λ is.
    let done = c.osb_core_ignore_matches.ensures.written.1 is in
    more_paths c.args.file.now c.args.flags.now c.args.paths.now c.args.array.now c.osb_core_ignore_matches.new.out _ done.0 done.1
