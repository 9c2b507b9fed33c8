use Rattle.std.proofs.Common.{◌∙◌, sym, ap}
use Rattle.std.specs.Prelude.{Some, None}
use Rattle.std.proofs.lemmas.List.{nil_from_length}
use Rattle.os_command_line.specs.declared.shell.step.Step.TheVariants.{Go}
use Rattle.os_command_line.proofs.lemmas.ShellMeaning.{meant_go, meant_stop, meant_refuse, meant_end}
use Rattle.os_command_line.proofs.lemmas.ShellScan.{go_within}
use Rattle.os_command_line.proofs.shell.word_bytes.next_marked.Goals as goal

pub returns-in-End : goal.returns-in-End
returns-in-End c =
    let none = meant_stop c.args.language c.loop-byte.state c.loop-byte.rest.now c.in-Some.byte.now c.in-Some.after.now c.in-Some.ensures.cases.0 (sym c.step_at.ensures ∙ c.in-End.is) in
    (c.loop-byte.invariant ∙ none, none)

pub returns-in-Refuse : goal.returns-in-Refuse
returns-in-Refuse c =
    let none = meant_refuse c.args.language c.loop-byte.state c.loop-byte.rest.now c.in-Some.byte.now c.in-Some.after.now c.in-Some.ensures.cases.0 _ (sym c.step_at.ensures ∙ c.in-Refuse.is) in
    (c.loop-byte.invariant ∙ none, none)

pub split_at-requires : goal.split_at-requires
split_at-requires c = go_within c.args.language c.loop-byte.state c.in-Some.byte.now c.in-Some.after.now _ _ _ c.in-Go.skipped c.step_at.ensures c.in-Go.is

pub returns-in-Some-meant : goal.returns-in-Some-meant
returns-in-Some-meant c =
    c.loop-byte.invariant
    ∙ meant_go c.args.language c.loop-byte.state c.loop-byte.rest.now c.in-Some.byte.now c.in-Some.after.now c.in-Some.ensures.cases.0 (Some c.in-Some-meant.byte) c.in-Go.next c.in-Go.skipped _
    (sym c.step_at.ensures ∙ c.in-Go.is ∙ ap (λ m. Go m c.in-Go.next c.in-Go.skipped) c.in-Some-meant.is) c.split_at.ensures.back

pub loop-byte-preserved : goal.loop-byte-preserved
loop-byte-preserved c =
    c.loop-byte.invariant
    ∙ meant_go c.args.language c.loop-byte.state c.loop-byte.rest.now c.in-Some.byte.now c.in-Some.after.now c.in-Some.ensures.cases.0 None c.in-Go.next c.in-Go.skipped _
    (sym c.step_at.ensures ∙ c.in-Go.is ∙ ap (λ m. Go m c.in-Go.next c.in-Go.skipped) c.in_default-meant.is) c.split_at.ensures.back

pub returns : goal.returns
returns c =
    let none = meant_end c.args.language c.loop-byte.state c.loop-byte.rest.now (nil_from_length c.loop-byte.rest.now c.in_default.ensures.cases) in
    (c.loop-byte.invariant ∙ none, none)
