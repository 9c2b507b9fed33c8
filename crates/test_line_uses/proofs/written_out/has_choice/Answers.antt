use Rattle.test_line_uses.proofs.written_out.has_choice.Goals as goal

pub returns : goal.returns
returns g c = λ o text written m w e.
    let path = g.L.Letters.letters c.args.path.now in
    let same = c.written_out.ensures o text c.args.choices.now written c.args.options path m w e in
    let has = c.matches_choice.ensures in
    (λ k. same.0 (has.0 k), λ k. has.1 (same.1 k))
