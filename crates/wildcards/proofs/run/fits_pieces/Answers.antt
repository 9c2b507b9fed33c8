use Rattle.wildcards.specs.Match.{Fits, TakesLetter}
use Rattle.wildcards.proofs.lemmas.Fitting.{by_letters}
use Rattle.wildcards.proofs.lemmas.Wilds.{from_many}
use Rattle.wildcards.proofs.run.fits_pieces.Goals as goal

pub returns-in-Many : goal.returns-in-Many
returns-in-Many g c =
    let both = from_many TakesLetter Fits by_letters _ _ _ _ c.in-Many.ensures.0 in
    let left = c.in-Some.ensures.alike in
    (λ e. left.1 (both.1 (c.is_after_many.ensures.0 e)), λ m. c.is_after_many.ensures.1 (both.0 (left.0 m)))
