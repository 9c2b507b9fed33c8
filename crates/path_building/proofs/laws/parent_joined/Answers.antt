use Rattle.path_building.proofs.lemmas.NameJoins.{name_joined, unix_name}
use Rattle.path_building.proofs.laws.parent_joined.Goals as goal

pub returns-clause-unix : goal.returns-clause-unix
returns-clause-unix c = λ path parent name joined p h i items a. unix_name path parent name joined p h i items a

pub returns-clause-alone : goal.returns-clause-alone
returns-clause-alone c = λ style path parent name joined p h read some v rel i same items a. name_joined style path parent name joined p h read some v rel i same items a
