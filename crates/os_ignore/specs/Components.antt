-- What a byte separates: the components of a path by slashes, and the lines of a file by line feeds.
use Rattle.std.specs.Prelude.{◌≡◌, ◌+◌, length, ◌++◌, ℕ, false, nat_eq, List, [], ◌∷◌, Option, Some, None}
use Rattle.std.specs.List.{All, slice_split}
use denote.Ref.{Bor}
use Rattle.wildcards.specs.declared.separators.Separators.TheVariants.{Slash}
use Rattle.wildcards.specs.Components.{components}

-- no byte of s is the separator
abbrev pub IsPlain : ℕ → List ℕ → Type 0
IsPlain separator s = All (λ b. nat_eq b separator ≡ false) s

-- s is the front, a separator and the back
abbrev pub IsCut : ℕ → List ℕ → List ℕ → List ℕ → Type 0
IsCut separator s front back = s ≡ front ++ separator ∷ back

-- what lies between the separators
abbrev pub pieces : ℕ → List ℕ → List (List ℕ)
pieces separator s = slice_split (λ b. nat_eq b separator) s

-- the pieces of what is left; none where nothing is
abbrev pub left_pieces : ℕ → Option (Bor (List ℕ)) → List (List ℕ)
left_pieces separator None = []
left_pieces separator (Some rest) = pieces separator rest.now

-- smaller the less is left
abbrev pub left_size : {X : Type 0} → Option (Bor (List X)) → ℕ
left_size None = 0
left_size (Some rest) = length rest.now + 1

-- the last component of a path: what comes after its last slash
abbrev pub IsLastComponent : List ℕ → List ℕ → Type 0
IsLastComponent path last = (front : List (List ℕ)) × (components Slash path ≡ front ++ last ∷ [])
