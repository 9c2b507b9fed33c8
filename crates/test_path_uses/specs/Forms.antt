-- The two forms of a path, as one.
use Rattle.std.specs.Prelude.{ℕ, List}
use Rattle.path_rules.specs.declared.rules.Style.{Style}
use Rattle.path_building.specs.Normalized.{IsNormalized}
use Rattle.path_building.specs.Cleaned.{IsCleaned}
use Rattle.test_path_uses.specs.declared.form.Form.{Form}
use Rattle.test_path_uses.specs.declared.form.Form.TheVariants as which

-- the result is the path in this form
abbrev pub IsForm : Form → Style → List ℕ → List ℕ → Type 0
IsForm which.Normal w path answer = IsNormalized w path answer
IsForm which.Clean w path answer = IsCleaned w path answer
