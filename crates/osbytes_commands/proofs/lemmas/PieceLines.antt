-- One more line of a piece, after those that were written.
use Rattle.std.proofs.Common.{◌≡◌, ℕ, List, ◌++◌, ap, ◌∙◌, append_assoc}

pub one_more_piece : {first second : List ℕ} (before piece newline rest : List ℕ) → first ≡ before ++ piece → second ≡ first ++ newline
    → second ++ rest ≡ before ++ ((piece ++ newline) ++ rest)
one_more_piece {first} {second} before piece newline rest e f =
    let whole : second ≡ before ++ (piece ++ newline) = f ∙ ap (λ made. made ++ newline) e ∙ append_assoc before piece newline in
    ap (λ made. made ++ rest) whole ∙ append_assoc before (piece ++ newline) rest
