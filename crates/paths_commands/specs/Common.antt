-- What `common` writes: the longest path that all paths begin with (CPython's `os.path.commonpath`).
use Rattle.std.specs.Prelude.{◌≡◌, ◌≢◌, ℕ, List, [], ◌∷◌, ◌++◌}
use Rattle.path_building.specs.CommonBase.{IsCommonBase, IsCommonBaseFault}
use Rattle.path_rules.specs.declared.rules.Style.{Style}
use Rattle.list_programs.specs.Items.{Lacks}
use Rattle.list_programs.specs.ListOptions.{byte_of}
use Rattle.list_programs.specs.declared.options.ItemEnd.{ItemEnd}
use Rattle.paths_commands.specs.Task.{way_text}
use Rattle.paths_commands.specs.declared.fault.CommandFault.{CommandFault}
use Rattle.paths_commands.specs.declared.fault.CommandFault.TheVariants.{Unreadable, Misuse, PassedOver, NoBase, BaseHas}

-- the common base of the paths, as it is written: `.` where it is empty
abbrev pub IsBaseText : Style → List (List ℕ) → List ℕ → Type 0
IsBaseText style paths text = (base : List ℕ) × (IsCommonBase style paths base × (text ≡ way_text base))

-- what is written for the paths: that without the byte that ends it, and that byte; nothing if there are no paths
abbrev pub IsCommonText : Style → ItemEnd → List (List ℕ) → List ℕ → Type 0
IsCommonText style end [] text = text ≡ []
IsCommonText style end (path ∷ paths) text = (base : List ℕ) × (IsBaseText style (path ∷ paths) base × (Lacks (byte_of end) base × (text ≡ base ++ byte_of end ∷ [])))

-- why nothing is written for the paths, of which there are some
abbrev pub IsUncommon : Style → ItemEnd → List (List ℕ) → CommandFault → Type 0
IsUncommon style end paths Unreadable = ⊥
IsUncommon style end paths (Misuse text) = ⊥
IsUncommon style end paths (PassedOver count) = ⊥
IsUncommon style end paths (NoBase error) = (paths ≢ []) × IsCommonBaseFault style paths error
IsUncommon style end paths (BaseHas byte) = (byte ≡ end) × ((base : List ℕ) × (IsBaseText style paths base × (¬ (Lacks (byte_of end) base))))
