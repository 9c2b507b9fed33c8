use Rattle.wildcards.proofs.lemmas.Bits.{is_stepped}
use Rattle.wildcards.proofs.automaton.stepped.Goals as goal

pub returns : goal.returns
returns c = is_stepped c.args.word c.args.fitting c.args.staying c.shifted.result c.shifted.ensures
