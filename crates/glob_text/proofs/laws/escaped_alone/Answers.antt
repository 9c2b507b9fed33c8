use Rattle.glob_text.proofs.lemmas.EscapedMeaning.{pattern_of}
use Rattle.glob_text.proofs.laws.escaped_alone.Goals as goal

pub returns : goal.returns
returns g c = λ around. pattern_of g.L.Letters.formed g.L.Letters.letters g.met.L.Letters.laws around
