use Rattle.std.proofs.Common.{◌≡◌, ◌∙◌}
use Rattle.std.specs.Prelude.{true}
use Rattle.osbytes_c.proofs.lemmas.GlobPlaces.{as_it_was}
use Rattle.osbytes_c.proofs.globs.sets.osb_core_globs_is_match.Goals as goal

pub returns-clause-left : goal.returns-clause-left
returns-clause-left c =
    let full : c.is_full.new.held.full ≡ true = cc in
    as_it_was c.is_full.new.held c.take-globs.new.held c.put.new.held c.take-globs.result full c.take-globs.ensures.globs c.take-globs.ensures.left c.put.ensures
    ∙ c.is_full.ensures.left
