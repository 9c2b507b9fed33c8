use Rattle.std.proofs.Common.{◌≤◌, ◌<◌, ◌∙◌, length, ap, sym, arith}
use Rattle.wildcards.specs.Tables.{places_at}
use Rattle.wildcards.proofs.lemmas.Covers.{at_slot, past_slots}
use Rattle.wildcards.proofs.filter.Filter.places.Goals as goal

pub returns-then-slot-buckets : goal.returns-then-slot-buckets
returns-then-slot-buckets g c =
    let bs = c.as_slice-buckets.result.now in
    let l : c.args.slot < length bs = c.if-slot-buckets.true in
    c.as_slice.ensures.value ∙ ap (λ v. v.items) c.index-buckets-slot.is ∙ sym (at_slot bs c.args.slot c.index-buckets-slot.result l)
    ∙ ap (λ z. places_at z c.args.slot) c.as_slice-buckets.ensures.value

pub returns : goal.returns
returns g c =
    let bs = c.as_slice-buckets.result.now in
    let past = c.if-slot-buckets.false in
    let l : length bs ≤ c.args.slot = omega (arith, past) in
    sym (past_slots bs c.args.slot l) ∙ ap (λ z. places_at z c.args.slot) c.as_slice-buckets.ensures.value
