use Rattle.std.proofs.Common.{true, refl, ap, arith}
use Rattle.std.specs.Fmt.{char_count}
use Rattle.platform_str.proofs.lemmas.Displays.{left_after}
use Rattle.platform_str.proofs.writeable.padding_to.Goals as goal

pub returns : goal.returns
returns g c =
    let wrote = (c.in_ok-write_to.ensures c.new-counter.ensures.plain.flush (refl {a = true})).wrote in
    let left = left_after _ _ wrote.parts wrote.calls in
    let first = ap (λ s. s.left) c.new-counter.ensures.writer in
    let last = ap (λ s. s.left) c.into_inner.ensures in
    let whole = ap char_count wrote.whole in
    omega (arith, left, first, last, whole)
