use Rattle.std.proofs.Common.{length, subst, arith}
use Rattle.std.proofs.lemmas.List.{take_all}
use Rattle.os_str_ext.specs.Pieces.{IsRSplit}
use Rattle.osbytes_c.proofs.lemmas.Walks.{split_walk, rsplit_walk}
use Rattle.osbytes_c.proofs.laws.split_walks.Goals as goal

pub returns-clause-split : goal.returns-clause-split
returns-clause-split c = λ p s pieces w. split_walk p s 0 pieces w

pub returns-clause-rsplit : goal.returns-clause-rsplit
returns-clause-rsplit c = λ p s pieces w. subst (λ x. IsRSplit p x pieces) (take_all (length s) s (omega arith)) (rsplit_walk p s (length s) pieces w)
