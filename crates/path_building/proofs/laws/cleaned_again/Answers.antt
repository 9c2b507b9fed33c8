use Rattle.path_building.proofs.lemmas.Again.{cleaned_again}
use Rattle.path_building.proofs.laws.cleaned_again.Goals as goal

pub returns : goal.returns
returns c = λ style path answer h. cleaned_again style path answer h
