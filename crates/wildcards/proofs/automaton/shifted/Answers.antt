use Rattle.wildcards.proofs.lemmas.Bits.{is_shifted}
use Rattle.wildcards.proofs.automaton.shifted.Goals as goal

pub returns : goal.returns
returns c = is_shifted c.args.word
