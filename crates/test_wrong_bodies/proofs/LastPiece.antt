-- The first piece of a split from the end.
use Rattle.std.proofs.Common.{◌≡◌, ℕ, ◌+◌, ◌<◌, List, ◌∷◌, ◌++◌, length, drop, sym, ap, ◌∙◌, arith}
use Rattle.std.proofs.Math.Seq.{drop-append-add, drop-append_seam}
use Rattle.os_str_ext.specs.Pieces.{IsRSplit, cut, whole}
use Rattle.wtf8_core.specs.Occurrence.{IsLastIndex}

-- there is one last index
one_last_index : (p s : List ℕ) (i j : ℕ) → IsLastIndex p s i → IsLastIndex p s j → i ≡ j
one_last_index p s i j a b =
    let before : ¬ (i < j) = λ l. a.greatest j l b.occurs in
    let after : ¬ (j < i) = λ l. b.greatest i l a.occurs in
    omega (arith, before, after)

-- it is what comes after the last index
pub after_last : (p s piece : List ℕ) (pieces : List (List ℕ)) (at : ℕ) → IsRSplit p s (piece ∷ pieces) → IsLastIndex p s at → piece ≡ drop (at + length p) s
after_last p s piece pieces at (whole w) g = absurd (w at g.occurs)
after_last p s piece pieces at (cut {rest = rest} c falls) g =
    sym (ap (λ i. drop (i + length p) s) (one_last_index p s at (length rest) g c.found) ∙ ap (drop (length rest + length p)) c.joined ∙ drop-append-add rest (p ++ piece) (length p) ∙ drop-append_seam p piece)
