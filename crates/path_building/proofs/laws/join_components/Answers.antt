use Rattle.path_building.proofs.lemmas.Joins.{join_items, join_to_empty}
use Rattle.path_building.proofs.laws.join_components.Goals as goal

pub returns-clause-both : goal.returns-clause-both
returns-clause-both c = λ style base path joined some v h i k xs ys a b. join_items style base path joined some v h i k xs ys a b

pub returns-clause-empty : goal.returns-clause-empty
returns-clause-empty c = λ style path joined i. join_to_empty style path joined i
