use Rattle.std.proofs.Common.{◌≡◌, arith}
use Rattle.osbytes_c.specs.Globs.{glob_options}
use Rattle.osbytes_c.proofs.lemmas.GlobSets.{matched_of}
use Rattle.osbytes_c.proofs.uses.globs.matched_once.Goals as goal

pub returns : goal.returns
returns c = λ _.
    let done : c.osb_core_globs_new.result ≡ 0 = omega arith in
    matched_of c.args.platform (glob_options c.args.options) c.args.patterns.now c.args.path.now c.osb_core_globs_new.new.held.globs c.osb_core_globs_is_match-reported.result
    (c.osb_core_globs_new.ensures.made done) c.osb_core_globs_is_match-reported.ensures.answer
