-- What a part of a pattern is in the list of its parts and `**`.
use Rattle.std.specs.Prelude.{Bool, true, false, List, [], ◌∷◌}
use Rattle.wildcards.specs.declared.piece.Piece.{Piece}
use Rattle.wildcards.specs.declared.piece.Piece.TheVariants.{Many, One}

-- a part, which may be `**`: that is any number of components before a separator, and else one or more
abbrev pub group : {X : Type 0} → Bool → Bool → X → List (Piece X)
group false joined part = One part ∷ []
group true true part = Many ∷ []
group true false part = Many ∷ One part ∷ []
