use Rattle.glob_text.proofs.lemmas.OneMeaning.{one_list_with_case, one_meaning}
use Rattle.glob_text.proofs.laws.one_meaning.Goals as goal

pub returns : goal.returns
returns g c = λ o text cs ds h k.
    let formed = g.L.Letters.formed in
    let letters = g.L.Letters.letters in
    let laws = g.met.L.Letters.laws in
    (one_meaning formed letters laws o text cs ds h k, one_list_with_case formed letters laws o text cs ds h k)
