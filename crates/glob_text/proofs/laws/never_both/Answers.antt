use Rattle.glob_text.proofs.lemmas.OneFault.{never_both}
use Rattle.glob_text.proofs.laws.never_both.Goals as goal

pub returns : goal.returns
returns g c = λ o text. never_both g.L.Letters.formed g.L.Letters.letters g.met.L.Letters.laws o text
