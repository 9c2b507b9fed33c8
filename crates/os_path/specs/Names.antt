-- The parts of the last name of a path (std's `Path::file_stem`, `Path::file_prefix` and `Path::extension`).
use Rattle.std.specs.Prelude.{◌⊎◌, ℕ, List}
use Rattle.path_rules.specs.declared.rules.Style.{Style}
use Rattle.path_rules.specs.Parent.{HasFileName, HasNoFileName}
use Rattle.path_rules.specs.Name.{IsExtension, HasNoExtension, IsStem, IsNamePrefix}

abbrev pub HasFileStem : Style → List ℕ → List ℕ → Type 0
HasFileStem style path stem = (name : List ℕ) × (HasFileName style path name × IsStem name stem)

abbrev pub HasFilePrefix : Style → List ℕ → List ℕ → Type 0
HasFilePrefix style path prefix = (name : List ℕ) × (HasFileName style path name × IsNamePrefix name prefix)

abbrev pub HasExtension : Style → List ℕ → List ℕ → Type 0
HasExtension style path extension = (name : List ℕ) × ((stem : List ℕ) × (HasFileName style path name × IsExtension name stem extension))

-- no last name, or one without an extension
abbrev pub LacksExtension : Style → List ℕ → Type 0
LacksExtension style path = HasNoFileName style path ⊎ ((name : List ℕ) × (HasFileName style path name × HasNoExtension name))
