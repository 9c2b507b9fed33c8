-- What falls into pieces.
use Rattle.std.proofs.Common.{◌≡◌, ◌∙◌, ◌↔◌, ◌<◌, ℕ, List, [], ◌∷◌, length, Option, None, Some, IsSome, IsSomeAnd, refl, sym, ap, arith}
use Rattle.std.proofs.lemmas.Bool.{false≢true}
use Rattle.os_str_ext.specs.Pieces.{SplitsInto, whole, cut}
use Rattle.os_str_ext.specs.Cuts.{AreOfRest}

-- where there is no cut, the whole is the one piece
pub one_piece : {Cuts : List ℕ → List ℕ → List ℕ → Type 0} {Whole : List ℕ → Type 0} (s : List ℕ) (pieces : List (List ℕ)) → ((piece rest : List ℕ) → ¬ (Cuts s piece rest)) → SplitsInto Cuts Whole s pieces → pieces ≡ s ∷ []
one_piece s pieces none (whole w) = refl
one_piece s pieces none (cut {piece = piece} {rest = rest} c falls) = absurd (none piece rest c)

-- what has pieces has one at least
pub no_empty_list : {Cuts : List ℕ → List ℕ → List ℕ → Type 0} {Whole : List ℕ → Type 0} (s : List ℕ) (pieces : List (List ℕ)) → SplitsInto Cuts Whole s pieces → 0 < length pieces
no_empty_list s pieces (whole w) = omega arith
no_empty_list s pieces (cut {pieces = others} c falls) = omega arith

-- what has one piece is that piece
whole_of_one : {Cuts : List ℕ → List ℕ → List ℕ → Type 0} {Whole : List ℕ → Type 0} (s piece : List ℕ) (pieces : List (List ℕ)) → SplitsInto Cuts Whole s pieces → pieces ≡ piece ∷ [] → s ≡ piece
whole_of_one s piece pieces (whole w) e = cc
whole_of_one s piece pieces (cut {rest = rest} {pieces = others} c falls) e =
    let more = no_empty_list rest others falls in
    let few : others ≡ [] = cc in
    absurd (omega (arith, more, ap length few))

-- the rest that has one piece is that piece
pub rest_of_one : {T : Type 0} (Cuts : List ℕ → List ℕ → List ℕ → List ℕ → Type 0) (of : T → List ℕ) (rest : Option T) (piece : List ℕ) (pieces : List (List ℕ)) → pieces ≡ piece ∷ []
    → AreOfRest Cuts of rest pieces → IsSomeAnd rest (λ s. of s ≡ piece)
rest_of_one Cuts of None piece pieces e none = absurd (omega (arith, ap length (sym none ∙ e)))
rest_of_one Cuts of (Some s) piece pieces e some = whole_of_one _ piece pieces some.2 e

-- there is a rest where pieces are left
pub rest_of_some : {T : Type 0} (Cuts : List ℕ → List ℕ → List ℕ → List ℕ → Type 0) (of : T → List ℕ) (rest : Option T) (pieces : List (List ℕ)) → AreOfRest Cuts of rest pieces → IsSome rest ↔ (0 < length pieces)
rest_of_some Cuts of None pieces none = (λ some. absurd (false≢true some), λ more. absurd (omega (arith, more, ap length none)))
rest_of_some Cuts of (Some s) pieces some = (λ _. no_empty_list _ pieces some.2, λ _. refl)
