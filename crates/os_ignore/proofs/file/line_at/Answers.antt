use Rattle.std.proofs.Common.{ap, ◌∙◌}
use Rattle.std.specs.List.{slice_get}
use Rattle.os_ignore.specs.Components.{left_pieces}
use Rattle.os_ignore.proofs.lemmas.Texts.{later}
use Rattle.os_ignore.proofs.file.line_at.Goals as goal

pub loop-left-preserved : goal.loop-left-preserved
loop-left-preserved c =
    let cut = ap (left_pieces 0xA) c.in-Some.is ∙ c.split_piece.ensures.parts in
    c.loop-left.invariant ∙ ap (λ z. slice_get z c.loop-left.before) cut ∙ later _ _ c.loop-left.before c.if-before-eq0.false
