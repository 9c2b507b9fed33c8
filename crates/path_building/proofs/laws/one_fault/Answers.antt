use Rattle.path_building.proofs.lemmas.OneFaults.{one_base_fault, one_name_fault, one_full_fault}
use Rattle.path_building.proofs.lemmas.OneBases.{one_common_base_fault}
use Rattle.path_building.proofs.laws.one_fault.Goals as goal

pub returns-clause-base : goal.returns-clause-base
returns-clause-base c = λ style path one other h k. one_base_fault style path one other h k

pub returns-clause-name : goal.returns-clause-name
returns-clause-name c = λ style path one other h k n m. one_name_fault style path one other h k n m

pub returns-clause-full : goal.returns-clause-full
returns-clause-full c = λ style path directory one other h k n m. one_full_fault style path directory one other h k n m

pub returns-clause-common : goal.returns-clause-common
returns-clause-common c = λ style paths one other h k. one_common_base_fault style paths one other h k
