-- The path and its parents (std's `Path::ancestors`).
use Rattle.std.specs.Prelude.{◌≡◌, ◌+◌, ℕ, List, length, Option, Some, None}
use Rattle.platform_str.specs.declared.platform.Platform.{Ghosts}
use Rattle.platform_str.specs.declared.path.Path.{Path}
use Rattle.platform_str.specs.Strings.{path_bytes}
use Rattle.path_rules.specs.declared.rules.Style.{Style}
use Rattle.path_rules.specs.Parent.{IsParent, HasNoParent}

-- after a path comes its parent, or nothing if it has none
abbrev pub IsNextParent : Style → List ℕ → Option (List ℕ) → Type 0
IsNextParent style path None = HasNoParent style path
IsNextParent style path (Some parent) = IsParent style path parent

-- how many paths may be left: each parent is shorter
abbrev pub paths_left : Option (List ℕ) → ℕ
paths_left None = 0
paths_left (Some path) = length path + 1

module _ {E : Type 0} {P : Ghosts E} (style : Style) where
  -- a call gave the path that was next, and its parent is next now; it gave none, and none comes after
  abbrev pub YieldsPath : Option (List ℕ) → Option (Path E P) → Option (List ℕ) → Type 0
  YieldsPath old None new = (old ≡ None) × (new ≡ None)
  YieldsPath old (Some path) new = (old ≡ Some (path_bytes path)) × IsNextParent style (path_bytes path) new
