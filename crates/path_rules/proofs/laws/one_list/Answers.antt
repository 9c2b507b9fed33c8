use Rattle.path_rules.proofs.lemmas.OneList.{one_prefix, one_components}
use Rattle.path_rules.proofs.laws.one_list.Goals as goal

pub returns-clause-prefix : goal.returns-clause-prefix
returns-clause-prefix c = λ s one other rest left a b. one_prefix s one other rest left a b

pub returns-clause-items : goal.returns-clause-items
returns-clause-items c = λ style s one other a b. one_components style s one other a b
