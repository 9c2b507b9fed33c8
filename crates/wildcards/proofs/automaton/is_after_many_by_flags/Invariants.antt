use Rattle.std.proofs.Common.{◌∷◌, length}
use Rattle.wildcards.specs.declared.piece.Piece.TheVariants.{Many}
use Rattle.wildcards.specs.Match.{Fits, TakesLetter}
use Rattle.wildcards.specs.Places.{AreKnown}
use Rattle.wildcards.proofs.lemmas.Fitting.{letter_taken}
use Rattle.wildcards.proofs.lemmas.Places.{ReadSoFar}
use Rattle.wildcards.proofs.automaton.is_after_many_by_flags.Given as goal

abbrev pub invariant-loop-letter : goal.invariant-loop-letter
invariant-loop-letter g l = ReadSoFar TakesLetter Fits letter_taken (Many ∷ l.pieces) (g.L.Letters.letters l.text) (g.L.Letters.letters l.from) l.reached × (g.L.Letters.formed l.from × AreKnown l.pieces l.letters l.known)

abbrev pub decreases-loop-letter : goal.decreases-loop-letter
decreases-loop-letter g l = length l.from
