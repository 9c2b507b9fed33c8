-- Why a path isn't joined to a base, by the number of the reason and an index.
use Rattle.std.specs.Prelude.{◌≡◌, ◌≢◌, ℕ, List}
use Rattle.path_rules.specs.declared.rules.Style.{Style}
use Rattle.path_building.specs.declared.checked.JoinError.{JoinError}
use Rattle.path_building.specs.declared.checked.JoinError.TheVariants.{Base, Name}
use Rattle.path_building.specs.declared.base.BaseError.TheVariants as base
use Rattle.path_building.specs.declared.walk.NameError.TheVariants as name
use Rattle.path_building.specs.Faults.{IsJoinFault}
use Rattle.osbytes_c.specs.declared.paths.joins.JoinFault.{JoinFault}

-- 1 a prefix, 2 a root, 3 a `..` that leaves, 4 a stream, 5 a reserved name, 6 the base, 7 a NUL of the path, 8 one of the base
abbrev pub reason_number : JoinError → ℕ
reason_number (Name name.Prefix) = 1
reason_number (Name name.Root) = 2
reason_number (Name (name.Leaves index)) = 3
reason_number (Name (name.Stream index)) = 4
reason_number (Name (name.Reserved index)) = 5
reason_number (Base base.Incomplete) = 6
reason_number (Base base.Reserved) = 6
reason_number (Name (name.Nul index)) = 7
reason_number (Base (base.Nul index)) = 8
reason_number (Name name.Memory) = 0

-- the number of the component at fault, or the byte index of the first NUL; 0 for what has none
abbrev pub reason_index : JoinError → ℕ
reason_index (Name name.Prefix) = 0
reason_index (Name name.Root) = 0
reason_index (Name (name.Leaves index)) = index
reason_index (Name (name.Stream index)) = index
reason_index (Name (name.Reserved index)) = index
reason_index (Base base.Incomplete) = 0
reason_index (Base base.Reserved) = 0
reason_index (Name (name.Nul index)) = index
reason_index (Base (base.Nul index)) = index
reason_index (Name name.Memory) = 0

-- an allocation failed
abbrev pub memory_error : JoinError
memory_error = Name name.Memory

-- the path isn't joined to the base for the reason that is reported, which isn't an allocation failure
pub record IsJoinReport (style : Style) (base path : List ℕ) (report : JoinFault) : Type 0 where
  pub error : JoinError
  pub fault : IsJoinFault style base path error
  pub other : error ≢ memory_error
  pub reason : report.reason ≡ reason_number error
  pub index : report.index ≡ reason_index error
