use Rattle.wtf8_core.proofs.Common.{refl, arith, length, ◌+◌, ◌≤◌}
use Rattle.wtf8_core.proofs.lemmas.vectors.Windows.{prefix_after_ascii, more_ascii}
use Rattle.wtf8_core.proofs.vectors.scan.ascii_end.Goals as goal

pub loop-end-init : goal.loop-end-init
loop-end-init c =
    let bytes = c.args.bytes.now in
    let room : c.args.at + 64 ≤ length bytes = omega (arith, c.if-bytes-at-lt-BLOCK.false, c.requires.within) in
    (omega arith, room, λ s k. more_ascii s bytes c.args.at 64 room (c.if-not-is_ascii_at.ensures refl) (prefix_after_ascii s bytes c.args.at c.requires.some c.requires.within (c.if-not-is_amid_ascii.ensures refl) k))

pub loop-end-preserved : goal.loop-end-preserved
loop-end-preserved c = grind (arith, more_ascii)
