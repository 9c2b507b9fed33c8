use Rattle.path_rules.proofs.lemmas.Keeps.{prefix_stays}
use Rattle.path_rules.proofs.laws.prefix_stays.Goals as goal

pub returns : goal.returns
returns c = λ s kind rest t more e h. let q = prefix_stays s kind rest t more e h in (q.before, (q.joined, q.kept))
