-- What errors print.
use Rattle.std.specs.Prelude.{ℕ, List, ◌++◌, codes, decimal}
use Rattle.path_building.specs.declared.base.BaseError.{BaseError}
use Rattle.path_building.specs.declared.base.BaseError.TheVariants as base
use Rattle.path_building.specs.declared.walk.NameError.{NameError}
use Rattle.path_building.specs.declared.walk.NameError.TheVariants as name
use Rattle.path_building.specs.declared.checked.JoinError.{JoinError}
use Rattle.path_building.specs.declared.checked.JoinError.TheVariants as join
use Rattle.path_building.specs.declared.common_bases.CommonBaseError.{CommonBaseError}
use Rattle.path_building.specs.declared.common_bases.CommonBaseError.TheVariants as common
use Rattle.path_building.specs.declared.full_paths.AbsoluteError.{AbsoluteError}
use Rattle.path_building.specs.declared.full_paths.AbsoluteError.TheVariants as absolute
use Rattle.path_building.specs.declared.normal.NormalizeError.{NormalizeError}
use Rattle.path_building.specs.declared.normal.NormalizeError.TheVariants as normalize
use Rattle.path_building.specs.declared.styles.StyleError.{StyleError}
use Rattle.path_building.specs.declared.styles.StyleError.TheVariants as restyle

-- what is there, its index, and in what
abbrev pub at_byte : List ℕ → ℕ → List ℕ → List ℕ
at_byte what index of = what ++ (codes " at byte " ++ (decimal index ++ of))

-- why a path is no base
abbrev pub base_error_text : BaseError → List ℕ
base_error_text (base.Nul index) = at_byte (codes "NUL") index (codes " of the base")
base_error_text base.Incomplete = codes "the base has an incomplete prefix"
base_error_text base.Reserved = codes "the base has a reserved name"

-- why a path isn't joined to a base
abbrev pub name_error_text : NameError → List ℕ
name_error_text (name.Nul index) = at_byte (codes "NUL") index (codes " of the path")
name_error_text name.Prefix = codes "the path has a prefix"
name_error_text name.Root = codes "the path has a root"
name_error_text (name.Leaves index) = codes "the path leaves the base at component " ++ decimal index
name_error_text (name.Stream index) = codes "the path has a colon in component " ++ decimal index
name_error_text (name.Reserved index) = codes "the path has a reserved name at component " ++ decimal index
name_error_text name.Memory = codes "out of memory"

abbrev pub join_error_text : JoinError → List ℕ
join_error_text (join.Base error) = base_error_text error
join_error_text (join.Name error) = name_error_text error

-- why a path has no normal form
abbrev pub normalize_error_text : NormalizeError → List ℕ
normalize_error_text normalize.NoName = codes "a `..` has no name before it"
normalize_error_text normalize.Memory = codes "out of memory"

-- why a path has no spelling in a style
abbrev pub style_error_text : StyleError → List ℕ
style_error_text (restyle.Component index) = codes "the style can't have component " ++ decimal index
style_error_text restyle.Memory = codes "out of memory"

-- why a path isn't made absolute
abbrev pub absolute_error_text : AbsoluteError → List ℕ
absolute_error_text absolute.Empty = codes "the path is empty"
absolute_error_text absolute.Prefix = codes "the path has an incomplete prefix"
absolute_error_text absolute.Reserved = codes "the path has a reserved name"
absolute_error_text absolute.Directory = codes "the directory isn't a full path"
absolute_error_text absolute.Drive = codes "the directory is on another drive"
absolute_error_text absolute.Memory = codes "out of memory"

-- a part of the path at an index isn't that of the first path
abbrev pub unlike_first : List ℕ → ℕ → List ℕ
unlike_first what index = what ++ (codes " of path " ++ (decimal index ++ codes " isn't that of path 0"))

-- why paths have no common base
abbrev pub common_base_error_text : CommonBaseError → List ℕ
common_base_error_text common.NoPath = codes "there are no paths"
common_base_error_text (common.Prefix index) = unlike_first (codes "the prefix") index
common_base_error_text (common.Root index) = unlike_first (codes "the root") index
