use Rattle.std.proofs.Common.{◌&&◌, ap, ◌∙◌, sym, take}
use Rattle.std.proofs.lemmas.List.{take_more}
use Rattle.os_command_line.specs.ShellWriting.{are_plain}
use Rattle.os_command_line.proofs.lemmas.ShellForms.{plain_more}
use Rattle.os_command_line.proofs.shell.form.are_plain.Goals as goal

pub loop-byte-preserved : goal.loop-byte-preserved
loop-byte-preserved c =
    let name = c.args.name.now in
    let i = c.loop-byte.byte-index in
    ap (λ z. z && c.is_plain-are_plain.result) c.loop-byte.invariant
    ∙ ap (λ z. are_plain (take i name) && z) c.is_plain-are_plain.ensures
    ∙ sym (plain_more (take i name) _)
    ∙ ap are_plain (sym (take_more name i _ c.loop-byte-test.true))
