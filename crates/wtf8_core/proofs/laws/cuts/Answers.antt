use Rattle.wtf8_core.proofs.lemmas.{forms.Cuts.wtf8_cut, forms.Cuts.utf8_cut, units.AsFunction.units_cut}
use Rattle.wtf8_core.proofs.laws.cuts.Goals as goal

pub returns-clause-parts : goal.returns-clause-parts
returns-clause-parts c = wtf8_cut

pub returns-clause-units : goal.returns-clause-units
returns-clause-units c = units_cut

pub returns-clause-texts : goal.returns-clause-texts
returns-clause-texts c = utf8_cut
