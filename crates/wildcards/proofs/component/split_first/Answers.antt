use Rattle.wildcards.proofs.lemmas.Readings.{first_of, whole}
use Rattle.wildcards.proofs.component.split_first.Goals as goal

pub returns-in-Some-clause-parts : goal.returns-in-Some-clause-parts
returns-in-Some-clause-parts g c = first_of g.L.Letters.formed g.L.Letters.letters g.met.L.Letters.laws _ _ _ _ c.requires c.in-Some.ensures.cut

pub returns-in-None-clause-parts : goal.returns-in-None-clause-parts
returns-in-None-clause-parts g c = whole g.L.Letters.formed g.L.Letters.letters g.met.L.Letters.laws _ _ c.requires c.in-None.ensures.cut
