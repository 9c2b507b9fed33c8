-- The extension of a path: only private contracts name this.
use Rattle.std.specs.Prelude.{◌≡◌, ◌≢◌, ℕ, List, [], ◌∷◌, ◌++◌}
use Rattle.std.specs.List.{AllByRecursion}

-- no dot is in the text
abbrev pub LacksDot : List ℕ → Type 0
LacksDot text = AllByRecursion (λ b. b ≢ 0x2E) text

-- this comes after the last dot of the last component
pub record IsExtension (parts : List (List ℕ)) (text : List ℕ) : Type 0 where
  pub before : List (List ℕ)
  pub start : List ℕ
  pub joined : parts ≡ before ++ (start ++ 0x2E ∷ text) ∷ []
  pub lacks : LacksDot text

-- the last component has no dot
pub record LacksExtension (parts : List (List ℕ)) : Type 0 where
  pub before : List (List ℕ)
  pub name : List ℕ
  pub joined : parts ≡ before ++ name ∷ []
  pub lacks : LacksDot name
