use Rattle.path_building.proofs.lemmas.Trailing.{ends, kept, same_items}
use Rattle.path_building.proofs.laws.trailing_separators.Goals as goal

pub returns-clause-kept : goal.returns-clause-kept
returns-clause-kept c = λ style path ended h k. kept style path ended h k

pub returns-clause-ends : goal.returns-clause-ends
returns-clause-ends c = λ style path ended h some drive. ends style path ended h some drive

pub returns-clause-items : goal.returns-clause-items
returns-clause-items c = λ style path ended h k v items a. same_items style path ended h k v items a
