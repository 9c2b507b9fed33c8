use Rattle.glob_text.specs.Texts.{AreWrittenOut}
use Rattle.glob_text.proofs.lemmas.OneMeaning.{one_meaning}
use Rattle.glob_text.proofs.laws.written_out.Goals as goal

pub returns : goal.returns
returns g c = λ o text compiled written p path m w e.
    let formed = g.L.Letters.formed in
    let letters = g.L.Letters.letters in
    let are = m.are.are in
    let own : AreWrittenOut formed letters o text are.written_out =
    record { symbols = m.symbols; read = m.read; marks = m.are.marks; marks_are = m.are.read; cased = m.are.cased; are_cased = m.are.are_cased; are = are.are } in
    let same = one_meaning formed letters g.met.L.Letters.laws o text are.written_out written own w p path in
    let matched = are.matched p e path in
    (λ k. same.0 (matched.0 k), λ k. matched.1 (same.1 k))
