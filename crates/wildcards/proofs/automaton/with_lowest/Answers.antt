use Rattle.wildcards.proofs.lemmas.Bits.{sets_lowest}
use Rattle.wildcards.proofs.automaton.with_lowest.Goals as goal

pub returns-then-flag : goal.returns-then-flag
returns-then-flag c = sets_lowest c.args.word c.args.flag c.if-flag.true
