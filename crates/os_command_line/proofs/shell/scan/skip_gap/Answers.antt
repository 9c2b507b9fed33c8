use Rattle.std.proofs.Common.{◌∙◌, ap, sym}
use Rattle.std.proofs.lemmas.List.{nil_from_length}
use Rattle.os_command_line.specs.ShellReader.{after_gap}
use Rattle.os_command_line.proofs.lemmas.ShellGaps.{gap_blank, gap_joined, gap_over, gap_none}
use Rattle.os_command_line.proofs.shell.scan.skip_gap.Goals as goal

pub loop-first-preserved-then-is_blank : goal.loop-first-preserved-then-is_blank
loop-first-preserved-then-is_blank c =
    c.loop-first.invariant ∙ ap after_gap c.in-Some.ensures.cases.0 ∙ gap_blank c.in-Some.first.now c.in-Some.after.now (sym c.is_blank.ensures ∙ c.if-is_blank.true)

pub returns-in_default-after_joined : goal.returns-in_default-after_joined
returns-in_default-after_joined c =
    let e = c.in-Some.ensures.cases.0 in
    let over = gap_over c.in-Some.first.now c.in-Some.after.now (sym c.is_blank.ensures ∙ c.if-is_blank.false) (λ rest f. c.in_default-after_joined.ensures rest (e ∙ f)) in
    e ∙ sym over ∙ ap after_gap (sym e) ∙ sym c.loop-first.invariant

pub loop-first-preserved : goal.loop-first-preserved
loop-first-preserved c = c.loop-first.invariant ∙ ap after_gap c.in-Some-after_joined.ensures ∙ gap_joined c.in-Some-after_joined.after.now

pub returns : goal.returns
returns c = let e = nil_from_length c.loop-first.rest.now c.in_default.ensures.cases in e ∙ sym gap_none ∙ ap after_gap (sym e) ∙ sym c.loop-first.invariant
