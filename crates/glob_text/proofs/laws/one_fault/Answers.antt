use Rattle.glob_text.proofs.lemmas.OneFault.{one_fault}
use Rattle.glob_text.proofs.laws.one_fault.Goals as goal

pub returns : goal.returns
returns g c = λ o text. one_fault g.L.Letters.formed g.L.Letters.letters g.met.L.Letters.laws o text
