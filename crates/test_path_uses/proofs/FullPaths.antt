-- What follows of absolute paths.
use Rattle.std.proofs.Common.{◌≡◌, inl, inr, ℕ, List, subst}
use Rattle.path_rules.specs.declared.rules.Style.{Style}
use Rattle.path_rules.specs.Root.{IsAbsolute}
use Rattle.path_building.specs.FullPath.{IsDevicePath, IsFullPath, IsAbsoluteFault}
use Rattle.path_building.specs.declared.full_paths.AbsoluteError.{AbsoluteError}
use Rattle.path_building.specs.declared.full_paths.AbsoluteError.TheVariants as error

pub kept_device : (w : Style) (path directory full : List ℕ) → IsFullPath w path directory full → IsDevicePath w path → full ≡ path
kept_device w path directory full (inl h) d = h.1
kept_device w path directory full (inr h) d = absurd (h.plain d)

pub relative_alone : (w : Style) (path directory : List ℕ) (e : AbsoluteError) → IsAbsoluteFault w path directory e → e ≡ error.Directory → ¬ (IsAbsolute w path)
relative_alone w path directory e h same = (subst (IsAbsoluteFault w path directory) same h).1.0
