use Rattle.path_rules.proofs.lemmas.Alike.{starts_from, ends_from, unix_starts}
use Rattle.path_rules.proofs.laws.starts_and_ends.Goals as goal

pub returns-clause-starts : goal.returns-clause-starts
returns-clause-starts c = λ style path base items others a b. starts_from style path base items others a b

pub returns-clause-ends : goal.returns-clause-ends
returns-clause-ends c = λ style path child items others a b. ends_from style path child items others a b

pub returns-clause-unix : goal.returns-clause-unix
returns-clause-unix c = λ path items first a. unix_starts path items first a
