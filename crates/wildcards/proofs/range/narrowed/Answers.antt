use Rattle.std.proofs.Common.{◌∙◌, ap, refl, ◌-◌, ◌*◌, ◌/◌, length, take}
use Rattle.wildcards.specs.Ranges.{is_in}
use Rattle.wildcards.proofs.lemmas.Orders.{narrowed_alike}
use Rattle.wildcards.proofs.range.narrowed.Goals as goal

pub returns-clause-alike : goal.returns-clause-alike
returns-clause-alike c =
    let rs = c.args.ranges.now in
    let third = length rs / 3 in
    ap (λ z. is_in z c.args.letter) (c.split_at-2.ensures.front ∙ ap (take (length rs - 2 * third)) c.split_at.ensures.back)
    ∙ narrowed_alike c.args.letter rs _ third (length rs - 2 * third) c.requires.ordered refl c.requires.some refl c.from-first.result c.from-second.result c.from-first.ensures c.from-second.ensures
