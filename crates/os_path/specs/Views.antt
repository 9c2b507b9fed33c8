-- What clauses see of a component of a path: its bytes.
use Rattle.platform_str.specs.declared.platform.Platform.{Ghosts}
use Rattle.platform_str.specs.declared.os_str.OsStr.{OsStr}
use Rattle.platform_str.specs.Strings.{bytes}
use Rattle.path_rules.specs.declared.component.Component.{Component}
use Rattle.path_rules.specs.declared.component.Component.TheVariants as component
use Rattle.path_rules.specs.Component.{Item, Prefix, RootDir, CurDir, ParentDir, Normal}

module _ {E : Type 0} {P : Ghosts E} where
  abbrev pub os_item_of : Component (OsStr E P) → Item
  os_item_of (component.Prefix s) = Prefix (bytes s)
  os_item_of component.RootDir = RootDir
  os_item_of component.CurDir = CurDir
  os_item_of component.ParentDir = ParentDir
  os_item_of (component.Normal s) = Normal (bytes s)
