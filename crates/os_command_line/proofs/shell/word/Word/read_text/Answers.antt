use Rattle.std.proofs.Common.{◌∙◌, sym, ap, arith, if◌then◌else◌}
use Rattle.std.proofs.lemmas.List.{nil_from_length}
use Rattle.os_command_line.specs.ShellReader.{meant}
use Rattle.os_command_line.specs.declared.shell.step.State.TheVariants.{Start}
use Rattle.os_command_line.proofs.lemmas.ShellBare.{quoted_meant}
use Rattle.os_command_line.proofs.shell.word.Word.read_text.Goals as goal

pub returns-in-Some-default-empty : goal.returns-in-Some-default-empty
returns-in-Some-default-empty c =
    let it = c.args.self in
    sym (quoted_meant it.language it.raw.now c.in-Some-default-empty.quoted.now _ c.in-Some-default-empty.ensures (nil_from_length _ (omega (arith, c.in-Some-default-empty.len_below))))
    ∙ ap (λ bare. if bare then it.raw.now else meant it.language Start 0 it.raw.now) (sym c.if-self.false)
