use Rattle.os_str_ext.proofs.{lemmas.Searches.first_index_of_needle, lemmas.Searches.cut_around_first, lemmas.Searches.below_first, Common.◌^◌, Common.arith}
use Rattle.os_str_ext.proofs.search.find.Goals as goal

pub returns-clause-index : goal.returns-clause-index
returns-clause-index c = first_index_of_needle _ _ _ (rw c.as_bytes.ensures.value at c.first_of.ensures)

pub returns-clause-edges : goal.returns-clause-edges
returns-clause-edges c = cut_around_first _ _ c.boundaries.ensures.edges c.utf8.text _ (returns-clause-index c)

pub returns-clause-after : goal.returns-clause-after
returns-clause-after c = below_first (2 ^ 64) _ _ _ (omega arith) (returns-clause-index c)
