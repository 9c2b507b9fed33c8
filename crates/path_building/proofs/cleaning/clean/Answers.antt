use Rattle.std.proofs.Common.{◌≡◌, inl, inr, subst}
use Rattle.path_building.specs.Beginning.{BeginsOddly}
use Rattle.path_building.specs.Cleaned.{one_spelling, IsCleanWritten, IsCleaned}
use Rattle.path_building.proofs.lemmas.Joins.{refuted}
use Rattle.path_building.proofs.lemmas.Forms.{if_ok}
use Rattle.path_building.proofs.cleaning.clean.Goals as goal

pub returns-then-begins_oddly : goal.returns-then-begins_oddly
returns-then-begins_oddly g c =
    let odd = c.begins_oddly.ensures.0 c.if-begins_oddly.true in
    let path = c.args.path.now in
    let begins = subst (BeginsOddly c.args.style) c.new-parsed.ensures.whole (subst (λ w. BeginsOddly w c.new-parsed.result.whole.now) c.new-parsed.ensures.style odd) in
    if_ok (λ z. z.items ≡ one_spelling path) (λ z. IsCleaned c.args.style path z.items) c.in_one_spelling.result (λ z e. inl (begins, e)) c.in_one_spelling.ensures

pub clean_written-requires : goal.clean_written-requires
clean_written-requires g c = refuted _ c.begins_oddly.result c.begins_oddly.ensures c.if-begins_oddly.false

pub returns : goal.returns
returns g c =
    let even = refuted _ c.begins_oddly.result c.begins_oddly.ensures c.if-begins_oddly.false in
    let w = c.new-parsed.result.style in
    let path = c.new-parsed.result.whole.now in
    rw (← c.new-parsed.ensures.style, ← c.new-parsed.ensures.whole) (if_ok (λ z. IsCleanWritten w path z.items) (λ z. IsCleaned w path z.items) c.clean_written.result (λ z h. inr (even, h)) c.clean_written.ensures)
