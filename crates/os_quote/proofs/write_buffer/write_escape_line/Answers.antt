use Rattle.os_quote.proofs.Common.{bytes, escape_in}
use Rattle.os_quote.specs.declared.form.Form.TheVariants.{Line}
use Rattle.os_quote.proofs.lemmas.Escapes.{escape_in_is}
use Rattle.os_quote.proofs.write_buffer.write_escape_line.Goals as goal

pub returns : goal.returns
returns g c = let s = bytes c.args.string in (escape_in Line g.E.Platform.units s, (escape_in_is Line g.E.Platform.units s, c.push_escape.ensures))
