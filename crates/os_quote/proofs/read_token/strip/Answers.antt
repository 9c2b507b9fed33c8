use Rattle.std.proofs.{Common.eqb, lemmas.Bool.Decides.Decides-eqb, lemmas.Slice.Eq.strip_prefix_is}
use Rattle.os_quote.proofs.read_token.strip.Goals as goal

pub returns : goal.returns
returns c = strip_prefix_is {E = eqb} Decides-eqb c.args.bytes.now c.args.prefix.now c.strip_prefix.result c.strip_prefix.ensures.cases
