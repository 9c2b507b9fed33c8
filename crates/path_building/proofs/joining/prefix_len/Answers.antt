use Rattle.std.proofs.Common.{◌≡◌, ◌++◌, length, take, sym, ap, ◌∙◌, subst, arith, length-append, refl}
use Rattle.std.proofs.lemmas.List.{take_at}
use Rattle.path_rules.specs.Prefix.{IsRawPrefix}
use Rattle.path_building.proofs.joining.prefix_len.Goals as goal

pub returns-clause-inside : goal.returns-clause-inside
returns-clause-inside c =
    let raw = c.raw_prefix.result.now in
    let rest = c.new.result.rest.now in
    let whole : length c.args.path.now ≡ length (raw ++ rest) = ap length (sym c.new.ensures.whole ∙ c.raw_prefix.ensures.joined) in
    omega (arith, whole, length-append raw rest)

pub returns-clause-raw : goal.returns-clause-raw
returns-clause-raw c =
    let raw = c.raw_prefix.result.now in
    let rest = c.new.result.rest.now in
    let whole : c.args.path.now ≡ raw ++ rest = sym c.new.ensures.whole ∙ c.raw_prefix.ensures.joined in
    let first : take (length raw) c.args.path.now ≡ raw = ap (take (length raw)) whole ∙ take_at raw rest (length raw) refl in
    subst (λ z. IsRawPrefix c.args.style c.args.path.now z) (sym first) (rw (← c.new.ensures.style, ← c.new.ensures.whole) c.raw_prefix.ensures.raw)
