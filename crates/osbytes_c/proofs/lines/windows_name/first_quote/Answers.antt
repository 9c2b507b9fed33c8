use Rattle.osbytes_c.proofs.lemmas.CommandLines.{quote_found}
use Rattle.osbytes_c.proofs.lines.windows_name.first_quote.Goals as goal

pub returns : goal.returns
returns c = quote_found c.args.raw.now c.memchr.result c.memchr.ensures
