-- Whether a path has a root, and whether it is absolute (std's `Path::has_root` and `Path::is_absolute`).
use Rattle.std.specs.Prelude.{◌≡◌, ℕ, true, List, [], ◌∷◌}
use Rattle.path_rules.specs.declared.rules.Rules.{Rules}
use Rattle.path_rules.specs.declared.rules.Rules.TheVariants as rules
use Rattle.path_rules.specs.declared.rules.Style.{Style}
use Rattle.path_rules.specs.declared.rules.Style.TheVariants as style
use Rattle.path_rules.specs.Separators.{separates}
use Rattle.path_rules.specs.Prefix.{Kind, Verbatim, VerbatimUnc, VerbatimDisk, Device, Unc, Disk, WithPrefix, EitherWay}
use Rattle.path_rules.specs.StyleRules.{rules_of_style}

-- s begins with a separator
abbrev pub BeginsWithSeparator : Rules → List ℕ → Type 0
BeginsWithSeparator r [] = ⊥
BeginsWithSeparator r (b ∷ s) = separates r b ≡ true

-- after the prefix of a drive a root is a separator; each other prefix has a root
abbrev pub HasRootAfter : Kind → List ℕ → Type 0
HasRootAfter (Verbatim name) rest = Unit {0}
HasRootAfter (VerbatimUnc server share) rest = Unit {0}
HasRootAfter (VerbatimDisk letter) rest = Unit {0}
HasRootAfter (Device name) rest = Unit {0}
HasRootAfter (Unc server share) rest = Unit {0}
HasRootAfter (Disk letter) rest = BeginsWithSeparator rules.Either rest

-- a separator first, or on Windows after the prefix; each prefix but a drive's has a root without one
abbrev pub HasRoot : Style → List ℕ → Type 0
HasRoot w s = EitherWay w s (BeginsWithSeparator (rules_of_style w)) HasRootAfter

-- on Unix a path with a root; on Windows one with a prefix and a root
abbrev pub IsAbsolute : Style → List ℕ → Type 0
IsAbsolute style.Unix s = BeginsWithSeparator rules.Slash s
IsAbsolute style.Windows s = WithPrefix style.Windows s HasRootAfter
