use Rattle.std.proofs.Common.{◌≡◌, ◌+◌, ◌-◌, ◌∷◌, length, drop, ap, sym, subst, arith, ◌∙◌}
use Rattle.std.proofs.lemmas.List.{length-append}
use Rattle.path_rules.specs.Separators.{IsCut}
use Rattle.path_rules.specs.Shared.{SharesItems}
use Rattle.path_rules.proofs.lemmas.Shared.{cut_shared, alike_parts}
use Rattle.path_rules.proofs.shared.after_shared.Goals as goal

pub returns : goal.returns
returns c =
    let rules = c.args.rules in
    let a = c.args.a.now in
    let b = c.args.b.now in
    let before = c.in-Some.field-0-0.now in
    let part = c.in-Some.part.now in
    let len = c.shared_len-len.result in
    let cut = c.in-Some.ensures.0 in
    let front_len = c.split_at.ensures.front_len in
    let sizes = ap length cut.joined ∙ length-append before (cut.separator ∷ part) in
    let at : len - length part ≡ length before + 1 = omega arith in
    subst (λ x. SharesItems rules a b x c.split_at-3.result.1.now) (sym c.split_at-2.ensures.back)
    (subst (λ y. SharesItems rules a b (drop (len - length part) a) y) (sym c.split_at-3.ensures.back)
    (cut_shared rules a b before part len (alike_parts a b len c.shared_len-len.ensures.first c.shared_len-len.ensures.second c.shared_len-len.ensures.same) (subst (λ s. IsCut rules s before part) c.split_at.ensures.front cut) (len - length part) at))
