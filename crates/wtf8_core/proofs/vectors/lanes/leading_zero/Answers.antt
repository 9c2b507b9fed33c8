use Rattle.wtf8_core.proofs.{Common.refl, Common.not, Common.eqb, Common.eqb-true, Common.not-false, lemmas.vectors.Lanes.none_passes_before}
use Rattle.wtf8_core.proofs.vectors.lanes.leading_zero.Goals as goal

pub returns-clause-zero : goal.returns-clause-zero
returns-clause-zero g c i h l = eqb-true _ _ (not-false _ (none_passes_before (λ a b. not (eqb a b)) c.args.lanes _ 0 _ c.requires c.fits-lanes.0 refl i h l))
