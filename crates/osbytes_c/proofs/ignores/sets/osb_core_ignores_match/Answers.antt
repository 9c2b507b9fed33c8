use Rattle.std.proofs.Common.{◌≡◌, ◌∙◌}
use Rattle.std.specs.Prelude.{true}
use Rattle.osbytes_c.proofs.lemmas.IgnorePlaces.{as_it_was}
use Rattle.osbytes_c.proofs.ignores.sets.osb_core_ignores_match.Goals as goal

pub returns-clause-left : goal.returns-clause-left
returns-clause-left c =
    let full : c.is_full.new.held.full ≡ true = cc in
    as_it_was c.is_full.new.held c.take-ignores.new.held c.put.new.held c.take-ignores.result full c.take-ignores.ensures.ignores c.take-ignores.ensures.left c.put.ensures
    ∙ c.is_full.ensures.left
