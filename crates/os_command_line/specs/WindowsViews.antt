-- What contracts say of arguments that are views of a line.
use Rattle.std.specs.Prelude.{◌≡◌, ℕ, Option, MatchOption, List, [], ◌∷◌}
use Rattle.wtf8_core.specs.UnitsOf.{units_of}
use Rattle.platform_str.specs.Strings.{bytes}
use Rattle.os_command_line.specs.WindowsReader.{meant, first_index, name_index, units_left}
use Rattle.os_command_line.specs.declared.windows.argument.Argument.{Argument}
use Rattle.os_command_line.specs.declared.windows.argument.Kind.{Kind}
use Rattle.os_command_line.specs.declared.windows.argument.Kind.TheVariants.{Name, Marked, Bare}
use Rattle.os_command_line.specs.declared.windows.pieces.Tail.{Tail}

-- what the units of a text of this kind mean
abbrev pub kind_units : Kind → List ℕ → List ℕ
kind_units Name us = meant name_index us
kind_units Marked us = meant first_index us
kind_units Bare us = us

-- the units of an argument, or of a program's name
abbrev pub argument_units : Argument → List ℕ
argument_units a = kind_units a.kind (units_of (bytes a.text))

-- the units that are left after these of a piece
abbrev pub left_after : List ℕ → Tail → List ℕ
left_after us tail = units_left us tail.mark tail.place (units_of (bytes tail.rest))

-- of these units the first is given and those are left, or there are none
abbrev pub GivesFirst : Option ℕ → List ℕ → List ℕ → Type 0
GivesFirst first all left = MatchOption first ((all ≡ []) × (left ≡ [])) (λ unit. all ≡ unit ∷ left)
