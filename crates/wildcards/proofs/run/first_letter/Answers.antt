use Rattle.wildcards.proofs.lemmas.Readings.{ascii_step}
use Rattle.wildcards.proofs.run.first_letter.Goals as goal

pub returns-then-first-lt128 : goal.returns-then-first-lt128
returns-then-first-lt128 g c =
    ascii_step g.L.Letters.formed g.L.Letters.letters g.met.L.Letters.laws _ _ _ _ c.in-Some.ensures.cases.0 c.if-first-lt128.true c.from.ensures c.requires
