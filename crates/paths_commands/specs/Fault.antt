-- The text of each reason why a path or the arguments are rejected.
use Rattle.std.specs.Prelude.{◌≡◌, ℕ, ◌+◌, ◌-◌, ◌^◌, min, List, ◌++◌, codes, decimal}
use Rattle.std.specs.Fmt.Cut.{cut_to}
use Rattle.std.specs.Fmt.InlineText.{inline_text}
use Rattle.os_str_bytes.specs.FaultText.{fault_text}
use Rattle.path_building.specs.ErrorText.{absolute_error_text, name_error_text}
use Rattle.path_building.specs.declared.common_bases.CommonBaseError.{CommonBaseError}
use Rattle.path_building.specs.declared.common_bases.CommonBaseError.TheVariants as common
use Rattle.path_building.specs.declared.walk.NameError.{NameError}
use Rattle.path_building.specs.declared.walk.NameError.TheVariants as name
use Rattle.paths_commands.specs.declared.fault.Rejection.{Rejection}
use Rattle.paths_commands.specs.declared.fault.Rejection.TheVariants.{NoString, NoNormalForm, NoRelativePath, NoAbsolutePath, NoJoin, NoJoinAt, NoComponent, NoStringThere, HasNul, ResultHas}
use Rattle.paths_commands.specs.declared.fault.CommandFault.{CommandFault}
use Rattle.paths_commands.specs.declared.fault.CommandFault.TheVariants.{Unreadable, Misuse, PassedOver, NoBase, BaseHas}
use Rattle.list_programs.specs.Misuse.{misuse_text}
use Rattle.list_programs.specs.declared.options.ItemEnd.{ItemEnd}
use Rattle.list_programs.specs.declared.options.ItemEnd.TheVariants.{Nul, Newline}
use Rattle.list_programs.specs.declared.misuse.Misuse as misuse

-- a comma and a text between quotes
abbrev pub quoted : List ℕ → List ℕ
quoted text = codes ", '" ++ (text ++ codes "'")

-- the number of a component at this index, from 1
abbrev pub one_more : ℕ → ℕ
one_more index = min (index + 1) (2 ^ 64 - 1)

-- what the program prints of a component at this index: its number, and its escape
abbrev pub numbered : ℕ → List ℕ → List ℕ
numbered index text = decimal (one_more index) ++ quoted text

-- of a component that the other platform can't have
abbrev pub unlike_text : ℕ → List ℕ → List ℕ
unlike_text index text = codes "a path there can't have component " ++ numbered index text

-- the error with the number of its component, from 1
abbrev pub from_one : NameError → NameError
from_one (name.Nul index) = name.Nul index
from_one name.Prefix = name.Prefix
from_one name.Root = name.Root
from_one (name.Leaves index) = name.Leaves (one_more index)
from_one (name.Stream index) = name.Stream (one_more index)
from_one (name.Reserved index) = name.Reserved (one_more index)
from_one name.Memory = name.Memory

-- of a component for which the path isn't joined to a base
abbrev pub at_fault_text : NameError → List ℕ → List ℕ
at_fault_text error text = name_error_text (from_one error) ++ quoted text

-- of a result with this byte, which would end it
abbrev pub result_text : ItemEnd → List ℕ
result_text Nul = codes "the result has a NUL"
result_text Newline = codes "the result has a newline"

-- what the program prints of the reason why a path is rejected
abbrev pub rejection_text : Rejection → List ℕ
rejection_text (NoString error) = fault_text error
rejection_text NoNormalForm = codes "no name before a .."
rejection_text NoRelativePath = codes "no path from the base leads there"
rejection_text (NoAbsolutePath error) = absolute_error_text error
rejection_text (NoJoin error) = name_error_text error
rejection_text (NoJoinAt error text) = at_fault_text error (inline_text text)
rejection_text (NoComponent index text) = unlike_text index (inline_text text)
rejection_text (NoStringThere error) = codes "no path there: " ++ fault_text error
rejection_text HasNul = codes "the path has a NUL"
rejection_text (ResultHas end) = result_text end

-- of this part of the path at an index, which isn't that of the first
abbrev pub unlike_first : List ℕ → ℕ → List ℕ
unlike_first what index = what ++ (codes " of path " ++ (decimal (one_more index) ++ codes " isn't that of path 1"))

-- of paths that have no common base
abbrev pub apart_text : CommonBaseError → List ℕ
apart_text common.NoPath = codes "no paths"
apart_text (common.Prefix index) = unlike_first (codes "no common base: the prefix") index
apart_text (common.Root index) = unlike_first (codes "no common base: the root") index

-- what the program prints of why it ends, beside faults of lists
abbrev pub words_text : CommandFault → List ℕ
words_text Unreadable = codes "an argument isn't valid UTF-8"
words_text (Misuse text) = inline_text text ++ codes "; paths --help lists the commands"
words_text (PassedOver count) = codes "rejected paths: " ++ decimal count
words_text (NoBase error) = apart_text error
words_text (BaseHas end) = result_text end

-- the status that the program ends with then
abbrev pub words_status : CommandFault → ℕ
words_status Unreadable = 2
words_status (Misuse text) = 2
words_status (PassedOver count) = 1
words_status (NoBase error) = 1
words_status (BaseHas end) = 1

-- the fault has the text of the misuse, which is cut if it is longer than 400 bytes
abbrev pub IsOfMisuse : misuse.Misuse → CommandFault → Type 0
IsOfMisuse why Unreadable = ⊥
IsOfMisuse why (Misuse text) = inline_text text ≡ cut_to 400 (misuse_text why)
IsOfMisuse why (PassedOver count) = ⊥
IsOfMisuse why (NoBase error) = ⊥
IsOfMisuse why (BaseHas end) = ⊥
