use Rattle.wtf8_core.proofs.Common.{◌<◌, drop, take, refl, leb, leb-false, length-drop, length-take, subst, arith, ◌∙◌}
use Rattle.std.proofs.lemmas.Simd.{get_or-chunk}
use Rattle.wtf8_core.proofs.lemmas.vectors.Lanes.{none_passes_left_before}
use Rattle.wtf8_core.proofs.vectors.ascii.ascii_len_at.Goals as goal

pub returns-clause-ascii : goal.returns-clause-ascii
returns-clause-ascii g c i h =
    let n = g.row.N in
    let rest = drop c.args.at c.args.bytes.now in
    let size = length-take n rest ∙ omega (arith, length-drop c.args.at c.args.bytes.now, c.requires.room) in
    let few : i < n = omega (arith, h, c.min.ensures) in
    subst (λ x. x < 0x80) (get_or-chunk c.args.at n c.args.bytes.now i 0 few) (leb-false _ _ (none_passes_left_before leb (take n rest) n 0x80 _ c.requires.few size refl i few (omega (arith, h, c.min.ensures))))
