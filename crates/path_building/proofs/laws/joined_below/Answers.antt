use Rattle.path_building.proofs.lemmas.Checks.{is_below}
use Rattle.path_building.proofs.lemmas.NulFree.{joined_no_nul}
use Rattle.path_building.proofs.lemmas.Below.{begins_below, stays_below}
use Rattle.path_building.proofs.laws.joined_below.Goals as goal

pub returns-clause-below : goal.returns-clause-below
returns-clause-below c = λ style base path joined h. is_below style base path joined h

pub returns-clause-begins : goal.returns-clause-begins
returns-clause-begins c = λ style base path joined h. begins_below style base path joined h

pub returns-clause-stays : goal.returns-clause-stays
returns-clause-stays c = λ style base path joined h. stays_below style base path joined h

pub returns-clause-no_nul : goal.returns-clause-no_nul
returns-clause-no_nul c = λ style base path joined h. joined_no_nul style base path joined h
