use Rattle.wildcards.proofs.lemmas.Cuts.{first_cut, none_cut}
use Rattle.wildcards.proofs.component.cut_first.Goals as goal

pub returns-clause-cut : goal.returns-clause-cut
returns-clause-cut c = first_cut _ _ _ _ _ _ c.split_at.ensures.front c.split_at.ensures.back c.split_at-2.ensures.back c.in-Some.ensures

pub returns-in_default-clause-cut : goal.returns-in_default-clause-cut
returns-in_default-clause-cut c = none_cut _ _ c.in_default.ensures
