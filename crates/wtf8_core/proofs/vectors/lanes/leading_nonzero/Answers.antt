use Rattle.wtf8_core.proofs.{Common.refl, Common.eqb, Common.eqb-false, lemmas.vectors.Lanes.none_of_64_passes_before}
use Rattle.wtf8_core.proofs.vectors.lanes.leading_nonzero.Goals as goal

pub returns-clause-other : goal.returns-clause-other
returns-clause-other c i h = eqb-false _ _ (none_of_64_passes_before eqb c.args.lanes 0 _ c.fits-lanes.0 refl i h)
