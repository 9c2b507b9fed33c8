use Rattle.std.proofs.Common.{◌%◌, arith}
use Rattle.wildcards.specs.Places.{AreFitting}
use Rattle.wildcards.proofs.lemmas.Flags.{pairs_set}
use Rattle.wildcards.proofs.automaton.known_fitting.Goals as goal

pub returns-clause-known : goal.returns-clause-known
returns-clause-known g c =
    record { each = λ i l. pairs_set (AreFitting c.args.pieces.now) c.args.letters.now c.args.known.now (c.args.letter % 128) c.args.letter c.fitting-flags.result i (omega (arith, c.told-letters)) (omega (arith, c.told-known)) c.fitting-flags.ensures (c.requires.each i l) }
