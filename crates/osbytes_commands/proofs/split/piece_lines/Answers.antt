use Rattle.std.proofs.Common.{◌++◌, ap, sym, ◌∙◌}
use Rattle.osbytes_commands.specs.Lines.{piece_digits, piece_lines}
use Rattle.osbytes_commands.proofs.lemmas.PieceLines.{one_more_piece}
use Rattle.osbytes_commands.proofs.split.piece_lines.Goals as goal

pub loop-piece-preserved : goal.loop-piece-preserved
loop-piece-preserved g c =
    let lines = c.loop-piece.lines.items in
    one_more_piece lines _ _ (piece_lines c.next.new.self) (c.in_ok-push_piece.ensures ∙ ap (λ b. lines ++ piece_digits b) c.as_encoded_bytes.ensures.value) c.in_ok-push.ensures.items
    ∙ ap (λ left. lines ++ piece_lines left) (sym c.in-Some.ensures.steps)
    ∙ c.loop-piece.invariant
