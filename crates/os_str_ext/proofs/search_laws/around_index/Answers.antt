use Rattle.os_str_ext.proofs.lemmas.AroundIndices.{before_first, after_last}
use Rattle.os_str_ext.proofs.search_laws.around_index.Goals as goal

pub returns-clause-before_first : goal.returns-clause-before_first
returns-clause-before_first c = before_first

pub returns-clause-after_last : goal.returns-clause-after_last
returns-clause-after_last c = after_last
