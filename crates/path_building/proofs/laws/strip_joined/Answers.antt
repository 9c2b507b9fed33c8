use Rattle.path_building.proofs.lemmas.StripJoins.{strip_joined, unix_strip}
use Rattle.path_building.proofs.laws.strip_joined.Goals as goal

pub returns-clause-unix : goal.returns-clause-unix
returns-clause-unix c = λ path base rest joined more s i items a. unix_strip path rest joined more base s i items a

pub returns-clause-alike : goal.returns-clause-alike
returns-clause-alike c = λ style path base rest joined more read s a e some v rel i same. strip_joined style path base rest joined more read s a e some v rel i same
