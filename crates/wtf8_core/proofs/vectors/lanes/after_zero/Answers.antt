use Rattle.wtf8_core.proofs.Common.{◌++◌, List, ℕ, length-append, replicate, get_or, get_or-drop, arith, sym, ap, ◌∙◌}
use Rattle.std.proofs.lemmas.Simd.{get_or-chunk, pick_l-range_with_len}
use Rattle.wtf8_core.proofs.vectors.lanes.after_zero.Goals as goal

pub returns : goal.returns
returns c i h =
    let both : List ℕ = replicate 16 0 ++ c.args.lanes in
    ap (λ x. get_or x i 0) (pick_l-range_with_len 0 both 15 16 (omega (arith, length-append (replicate 16 0) c.args.lanes, c.fits-lanes.0)))
    ∙ get_or-chunk 15 16 both i 0 h ∙ sym (get_or-drop 15 both i 0)
