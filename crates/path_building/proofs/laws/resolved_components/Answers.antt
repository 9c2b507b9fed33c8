use Rattle.path_building.proofs.lemmas.OneJoin.{left_same}
use Rattle.path_building.proofs.lemmas.ResolvedItems.{joined_resolved}
use Rattle.path_building.proofs.laws.resolved_components.Goals as goal

pub returns-clause-items : goal.returns-clause-items
returns-clause-items c = λ base path joined v w n some i. joined_resolved base path joined v w n some i

pub returns-clause-one : goal.returns-clause-one
returns-clause-one c = λ base path one other f g. left_same base path one other f g
