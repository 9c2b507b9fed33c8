-- How a text begins, part by part. Only private contracts name this; `IsEscapeBy` says what an escape is.
use Rattle.std.specs.Prelude.{◌≢◌, ℕ, List, ◌++◌}

-- the text doesn't begin with the prefix
abbrev pub StartsNot : List ℕ → List ℕ → Type 0
StartsNot prefix text = (following : List ℕ) → text ≢ prefix ++ following
