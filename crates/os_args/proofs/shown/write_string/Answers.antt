use Rattle.std.proofs.Output.{has_written_styled_of_eq}
use Rattle.platform_str.specs.Strings.{bytes}
use Rattle.os_args.proofs.lemmas.OneEscape.{shown_escape}
use Rattle.os_args.proofs.shown.write_string.Goals as goal

pub returns : goal.returns
returns g c = λ flush ok. has_written_styled_of_eq _ _ _ _ _ (shown_escape g.E.Platform.units (bytes c.args.string) _ c.escaped_line.ensures) (c.write_to.ensures flush ok)
