use Rattle.path_building.proofs.lemmas.MainSeparators.{main_separators, way_separators}
use Rattle.path_building.proofs.laws.main_separators.Goals as goal

pub returns-clause-written : goal.returns-clause-written
returns-clause-written c = λ style items path h. main_separators style items path h

pub returns-clause-way : goal.returns-clause-way
returns-clause-way c = λ style path base way h n both. way_separators style path base way h.0 n both
