use Rattle.std.proofs.Common.{inl, inr, subst}
use Rattle.path_building.specs.Beginning.{BeginsOddly}
use Rattle.path_building.specs.Normalized.{IsNormalWritten, IsNormalized}
use Rattle.path_building.proofs.lemmas.Joins.{refuted}
use Rattle.path_building.proofs.lemmas.Forms.{if_ok}
use Rattle.path_building.proofs.normal.normalize.Goals as goal

pub returns-then-begins_oddly-clause-ok : goal.returns-then-begins_oddly-clause-ok
returns-then-begins_oddly-clause-ok g c =
    let odd = c.begins_oddly.ensures.0 c.if-begins_oddly.true in
    inl (subst (BeginsOddly c.args.style) c.new-parsed.ensures.whole (subst (λ w. BeginsOddly w c.new-parsed.result.whole.now) c.new-parsed.ensures.style odd), c.in_ok-from_slice.ensures.items)

pub normal_written-requires : goal.normal_written-requires
normal_written-requires g c = refuted _ c.begins_oddly.result c.begins_oddly.ensures c.if-begins_oddly.false

pub returns-clause-ok : goal.returns-clause-ok
returns-clause-ok g c =
    let even = refuted _ c.begins_oddly.result c.begins_oddly.ensures c.if-begins_oddly.false in
    let w = c.new-parsed.result.style in
    let path = c.new-parsed.result.whole.now in
    rw (← c.new-parsed.ensures.style, ← c.new-parsed.ensures.whole) (if_ok (λ z. IsNormalWritten w path z.items) (λ z. IsNormalized w path z.items) c.normal_written.result (λ z h. inr (even, h)) c.normal_written.ensures.ok)

pub returns-clause-err : goal.returns-clause-err
returns-clause-err g c = rw (← c.new-parsed.ensures.style, ← c.new-parsed.ensures.whole) c.normal_written.ensures.err
