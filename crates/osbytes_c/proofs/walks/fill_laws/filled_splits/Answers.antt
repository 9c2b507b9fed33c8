use Rattle.osbytes_c.proofs.lemmas.Fills.{split_filled, rsplit_filled}
use Rattle.osbytes_c.proofs.walks.fill_laws.filled_splits.Goals as goal

pub returns-clause-split : goal.returns-clause-split
returns-clause-split c = λ p s address at items ended rest left. split_filled p s address at items ended rest left

pub returns-clause-rsplit : goal.returns-clause-rsplit
returns-clause-rsplit c = λ p s address at items ended rest left. rsplit_filled p s address at items ended rest left
