use Rattle.path_building.proofs.lemmas.OneResults.{one_normalized, one_cleaned, one_checked, one_checked_ended, one_pushed, one_full}
use Rattle.path_building.proofs.lemmas.OneBases.{one_common_base, one_named, one_stem_set}
use Rattle.path_building.proofs.laws.one_result.Goals as goal

pub returns-clause-normal : goal.returns-clause-normal
returns-clause-normal c = λ style path one other h k. one_normalized style path one other h k

pub returns-clause-clean : goal.returns-clause-clean
returns-clause-clean c = λ style path one other h k. one_cleaned style path one other h k

pub returns-clause-checked : goal.returns-clause-checked
returns-clause-checked c = λ style base path one other h k. one_checked style base path one other h k

pub returns-clause-ended : goal.returns-clause-ended
returns-clause-ended c = λ style base path one other h k. one_checked_ended style base path one other h k

pub returns-clause-pushed : goal.returns-clause-pushed
returns-clause-pushed c = λ style path items one other h k. one_pushed style path items one other h k

pub returns-clause-full : goal.returns-clause-full
returns-clause-full c = λ style path directory one other h k. one_full style path directory one other h k

pub returns-clause-common : goal.returns-clause-common
returns-clause-common c = λ style paths one other h k. one_common_base style paths one other h k

pub returns-clause-named : goal.returns-clause-named
returns-clause-named c = λ style path name one other h k. one_named style path name one other h k

pub returns-clause-stem : goal.returns-clause-stem
returns-clause-stem c = λ style path stem one other h k. one_stem_set style path stem one other h k
