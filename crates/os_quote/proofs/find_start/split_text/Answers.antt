use Rattle.os_quote.proofs.Common.{◌∙◌, ap, arith, cases_lt, length, subst, sym, take, take_all, IsUtf8, ⊎_elim}
use Rattle.os_quote.proofs.lemmas.FirstUnits.{fault_at_start, cut_text}
use Rattle.os_quote.proofs.find_start.split_text.Goals.{in-Some, in-None}
use Rattle.os_quote.proofs.find_start.split_text.Goals as goal

pub returns-then-len-eq0 : goal.returns-then-len-eq0
returns-then-len-eq0 g c =
    elim c.match-utf8_fault.branch [
      | in-Some w ↦ fault_at_start c.args.bytes.now w.in-Some.valid_up_to w.in-Some.ensures.valid (sym w.len-is ∙ c.if-len-eq0.true)
      | in-None w ↦ absurd (let some = c.requires.some in omega (arith, some, sym w.len-is ∙ c.if-len-eq0.true))
    ]

pub split_at-requires : goal.split_at-requires
split_at-requires g c =
    elim c.match-utf8_fault.branch [
      | in-Some w ↦ let short = w.in-Some.ensures.valid.short in omega (arith, short, w.len-is)
      | in-None w ↦ omega (arith, w.len-is)
    ]

pub from_utf8_unchecked-requires : goal.from_utf8_unchecked-requires
from_utf8_unchecked-requires g c =
    let s = c.args.bytes.now in
    subst IsUtf8 (sym c.split_at.ensures.front) (elim c.match-utf8_fault.branch [
      | in-Some w ↦ subst (λ n. IsUtf8 (take n s)) (sym w.len-is) w.in-Some.ensures.valid.front
      | in-None w ↦ subst IsUtf8 (sym (take_all c.match-utf8_fault.len s (omega (arith, w.len-is)))) w.in-None.ensures
    ])

pub returns : goal.returns
returns g c =
    let n = c.match-utf8_fault.len in
    let same = c.from_utf8_unchecked.ensures in
    let some = ⊎_elim (λ lt. lt) (λ ge. absurd (c.if-len-eq0.false (omega (arith, ge)))) (cases_lt 0 n) in
    cut_text c.args.bytes.now _ _ n some (ap length same ∙ c.split_at.ensures.front_len) c.from_utf8_unchecked.utf8 (same ∙ c.split_at.ensures.front) c.split_at.ensures.back
