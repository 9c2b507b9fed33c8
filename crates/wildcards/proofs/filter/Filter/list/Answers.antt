use Rattle.std.proofs.Common.{◌<◌, ◌∙◌, ◌∷◌, ◌++◌, [], inl, inr, length, refl, ap, sym, subst, arith}
use Rattle.wildcards.specs.Sets.{Has}
use Rattle.wildcards.proofs.lemmas.Found.{has_pushed}
use Rattle.wildcards.proofs.lemmas.Covers.{more_others, more_listed, pushed_all, pushed_one}
use Rattle.wildcards.proofs.filter.Filter.list.Goals as goal

pub returns-then-slot-len-clause-listed : goal.returns-then-slot-len-clause-listed
returns-then-slot-len-clause-listed g c =
    let bs = c.args.self.now.buckets.items in
    let below = c.if-slot-len.true in
    let len = c.len.ensures in
    let size = c.args.self.now.buckets.ok.0 in
    let l : c.slot-slot.result < length bs = omega (arith, below, len, size) in
    inr (pushed_one c.args.self.now.folds bs _ c.slot-slot.result c.args.place c.push.new.self c.index_mut.result.now l refl (c.in_ok-push.ensures.items ∙ ap (λ z. z.items ++ c.args.place ∷ []) c.index_mut.ensures.value) c.args.key.now (c.slot-slot.ensures))

pub returns-then-slot-len-clause-grows : goal.returns-then-slot-len-clause-grows
returns-then-slot-len-clause-grows g c =
    let bs = c.args.self.now.buckets.items in
    let below = c.if-slot-len.true in
    let len = c.len.ensures in
    let size = c.args.self.now.buckets.ok.0 in
    let l : c.slot-slot.result < length bs = omega (arith, below, len, size) in
    more_listed c.args.self.now _ (pushed_all c.args.self.now.folds bs _ c.slot-slot.result c.args.place c.push.new.self c.index_mut.result.now l refl (c.in_ok-push.ensures.items ∙ ap (λ z. z.items ++ c.args.place ∷ []) c.index_mut.ensures.value))

pub returns-clause-listed : goal.returns-clause-listed
returns-clause-listed g c = inl (subst (λ z. Has z c.args.place) (sym c.in_ok-push-2.ensures.items) (has_pushed c.args.self.now.others.items c.args.place))

pub returns-clause-grows : goal.returns-clause-grows
returns-clause-grows g c = more_others c.args.self.now _ c.args.place c.in_ok-push-2.ensures.items
