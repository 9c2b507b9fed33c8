use Rattle.std.proofs.Common.{◌∷◌}
use Rattle.wildcards.specs.declared.piece.Piece.TheVariants.{Many}
use Rattle.wildcards.specs.Match.{Fits, TakesLetter}
use Rattle.wildcards.specs.Places.{AreFitting}
use Rattle.wildcards.proofs.lemmas.Fitting.{letter_taken}
use Rattle.wildcards.proofs.lemmas.Flags.{fitting_after_many, pairs_first}
use Rattle.wildcards.proofs.lemmas.Places.{read_first, read_more, read_all}
use Rattle.wildcards.proofs.automaton.is_after_many_by_flags.Goals as goal

pub loop-letter-init : goal.loop-letter-init
loop-letter-init g c =
    (read_first TakesLetter Fits letter_taken (Many ∷ c.args.pieces.now) _, (c.requires, record { each = λ i l. pairs_first (AreFitting c.args.pieces.now) 0 c.fitting-known.result c.fitting-known.ensures 128 i l }))

pub loop-letter-preserved : goal.loop-letter-preserved
loop-letter-preserved g c =
    let first = c.in-Some.ensures in
    let flags = c.in_ok-staying.ensures in
    (read_more TakesLetter Fits letter_taken _ _ flags.1 _ _ _ c.loop-letter.invariant.0 _ _ _ _ _ first.letters_are (fitting_after_many Fits _ _ _ c.known_fitting-fitting.ensures.result) flags.0 c.stepped-reached.ensures, (first.formed_after, c.known_fitting-fitting.ensures.known))

pub returns : goal.returns
returns g c = read_all TakesLetter Fits letter_taken _ _ c.in_ok-staying.ensures.1 _ _ _ c.loop-letter.invariant.0 _ c.in_default.ensures c.is_set.ensures
