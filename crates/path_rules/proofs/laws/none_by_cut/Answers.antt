use Rattle.std.proofs.Common.{inr}
use Rattle.path_rules.proofs.lemmas.Totals.{none_by_cut}
use Rattle.path_rules.proofs.laws.none_by_cut.Goals as goal

pub returns : goal.returns
returns c = λ s f more e edge none kind rest h. none_by_cut s f more e (inr edge) none kind rest h
