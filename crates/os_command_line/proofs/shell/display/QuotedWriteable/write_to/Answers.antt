use Rattle.platform_str.specs.Strings.{bytes}
use Rattle.os_command_line.proofs.lemmas.ShellBare.{text_form}
use Rattle.os_command_line.proofs.shell.display.QuotedWriteable.write_to.Goals as goal

pub write_in-requires : goal.write_in-requires
write_in-requires g c = record { accepted = text_form (bytes c.args.self.now.name) c.args.self.now.form c.args.self.now.is_text; room = tt }
