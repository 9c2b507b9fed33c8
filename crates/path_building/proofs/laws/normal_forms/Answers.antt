use Rattle.std.proofs.Common.{sym, ap, ◌∙◌}
use Rattle.std.specs.Prelude.{reverse}
use Rattle.std.proofs.lemmas.List.{reverse-reverse}
use Rattle.path_building.proofs.lemmas.Normals.{again, one_form}
use Rattle.path_building.proofs.laws.normal_forms.Goals as goal

pub returns-clause-again : goal.returns-clause-again
returns-clause-again c = λ items normal h. again h

pub returns-clause-one : goal.returns-clause-one
returns-clause-one c = λ items one other h k. sym (reverse-reverse one) ∙ ap reverse (one_form h k) ∙ reverse-reverse other
