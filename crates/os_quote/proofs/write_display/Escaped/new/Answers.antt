use Rattle.os_quote.proofs.Common.{bytes}
use Rattle.os_quote.proofs.lemmas.Escapes.{escape_in_is}
use Rattle.os_quote.proofs.write_display.Escaped.new.Goals as goal

pub returns : goal.returns
returns g c = escape_in_is c.args.form g.E.Platform.units (bytes c.args.string)
