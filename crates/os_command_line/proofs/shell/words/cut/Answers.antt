use Rattle.std.proofs.Common.{◌∙◌, ap, refl}
use Rattle.os_command_line.specs.ShellReader.{raw_bytes}
use Rattle.os_command_line.proofs.lemmas.WindowsUnits.{cut_before_end}
use Rattle.os_command_line.proofs.shell.words.cut.Goals as goal

pub returns : goal.returns
returns c raw e =
    let parts = cut_before_end c.args.text.now raw c.args.rest.now _ e refl in
    (c.split_at.ensures.back ∙ parts.1, ap (raw_bytes c.args.language c.args.is_bare) (c.split_at.ensures.front ∙ parts.0))
