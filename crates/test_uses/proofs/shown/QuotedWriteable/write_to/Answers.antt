use Rattle.std.proofs.Common.{◌++◌, codes, true, refl, ap}
use Rattle.std.proofs.Output.{has_written_styled_append, has_written_styled_of_eq}
use Rattle.test_uses.proofs.shown.QuotedWriteable.write_to.Goals as goal

pub returns : goal.returns
returns g c = λ flush ok.
    let head = c.in_ok-write_str.ensures.styled flush (refl {a = true}) in
    let string = c.in_ok-write_to.ensures head.flush (refl {a = true}) in
    let end = c.write_str-2.ensures.styled string.flush ok in
    has_written_styled_of_eq _ _ _ _ _ (ap (λ x. codes "'" ++ (g.E.Platform.lossy x ++ codes "'")) c.display.ensures)
    (has_written_styled_append _ _ _ _ _ _ head (has_written_styled_append _ _ _ _ _ _ string end))
