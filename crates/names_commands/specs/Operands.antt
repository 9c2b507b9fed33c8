-- The operands of a command: a platform, which may be left out, and a pattern.
use Rattle.std.specs.Prelude.{◌≡◌, ◌≢◌, ◌⊎◌, ℕ, List, [], ◌∷◌}
use Rattle.program_frame.specs.Os.{os_word}
use Rattle.program_frame.specs.declared.os.Os.{Os}
use Rattle.program_frame.specs.declared.os.Os.TheVariants.{Unix}

-- no platform is the first
abbrev pub LacksPlatform : List (List ℕ) → Type 0
LacksPlatform [] = Unit {0}
LacksPlatform (word ∷ more) = (os : Os) → word ≢ os_word os

-- the operands after a command are a platform and these. Or they are these alone, the first of which is no platform, and then it is Unix
abbrev pub HasPlatform : List (List ℕ) → Os → List (List ℕ) → Type 0
HasPlatform after os more = (after ≡ os_word os ∷ more) ⊎ ((os ≡ Unix) × (LacksPlatform after × (after ≡ more)))

-- the texts of the first
abbrev pub first_of : List (List ℕ) → List (List ℕ)
first_of [] = []
first_of (word ∷ more) = word ∷ []

-- of operands, the one after the command and the platform, which is a pattern
abbrev pub IsGlobOperand : List (List ℕ) → List (List ℕ) → Type 0
IsGlobOperand [] globs = globs ≡ []
IsGlobOperand (command ∷ after) globs = (os : Os) × (more : List (List ℕ)) × (HasPlatform after os more × (globs ≡ first_of more))
