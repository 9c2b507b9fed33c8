use Rattle.std.proofs.Common.{arith}
use Rattle.osbytes_c.specs.Globs.{glob_options}
use Rattle.osbytes_c.proofs.lemmas.Built.{there}
use Rattle.osbytes_c.proofs.lemmas.GlobSets.{reported_of_kept}
use Rattle.osbytes_c.proofs.uses.globs.reported_kept.Goals as goal

pub returns-in-0 : goal.returns-in-0
returns-in-0 c =
    let o = glob_options c.args.options in
    reported_of_kept c.args.platform o c.args.patterns.now c.args.paths.now c.osb_core_globs_new-made.new.held.globs _ (c.osb_core_globs_new-made.ensures.made (omega arith))
    (there (c.osb_core_globs_matches-status.ensures.written.0 c.in-0.is))
