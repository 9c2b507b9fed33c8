use Rattle.std.proofs.Common.{◌≡◌, ◌∷◌, [], true, false}
use Rattle.wildcards.specs.declared.piece.Piece.TheVariants.{Many}
use Rattle.wildcards.specs.Match.{TakesComponent, FitsComponent}
use Rattle.wildcards.proofs.lemmas.Fitting.{by_components}
use Rattle.wildcards.proofs.lemmas.Wilds.{from_many}
use Rattle.wildcards.proofs.path.matches_from_ends.Goals as goal

pub returns-in-Some : goal.returns-in-Some
returns-in-Some g c =
    let both = from_many (TakesComponent c.args.options.literal_leading_dot) (FitsComponent c.args.options.literal_leading_dot) (by_components c.args.options.literal_leading_dot) _ _ _ _ c.in-Many.ensures.0 in
    let left = c.in-Some.ensures.alike (Many ∷ []) in
    (λ e. both.1 (left.1 (c.is_after_many.ensures.0 e)), λ m. c.is_after_many.ensures.1 (left.0 (both.0 m)))

pub returns-in_default : goal.returns-in_default
returns-in_default g c =
    let no : ¬ (false ≡ true) = λ e. cc in
    let both = from_many (TakesComponent c.args.options.literal_leading_dot) (FitsComponent c.args.options.literal_leading_dot) (by_components c.args.options.literal_leading_dot) _ _ _ _ c.in-Many.ensures.0 in
    (λ e. absurd (no e), λ m. absurd (c.in_default.ensures (Many ∷ []) (both.0 m)))
