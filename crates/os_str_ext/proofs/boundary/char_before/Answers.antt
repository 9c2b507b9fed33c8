use Rattle.os_str_ext.proofs.Common.{◌≡◌, ◌-◌, arith, subst, sym, WholeCharacter}
use Rattle.os_str_ext.proofs.boundary.char_before.Goals as goal

pub returns : goal.returns
returns c =
    let s = c.args.bytes.now in
    let i = c.args.at in λ k w.
    let f = c.characters.ensures.fits s k i w in
    let z : i - (i - k) ≡ k = omega arith in
    c.loop-size.invariant (i - k) (omega arith) (omega arith) (omega arith) (subst (λ x. WholeCharacter s x i) (sym z) w)
