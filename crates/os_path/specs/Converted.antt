-- A path of one platform as a path of another.
use Rattle.std.specs.Prelude.{ℕ, List}
use Rattle.wtf8_core.specs.declared.fault.EncodingError.{EncodingError}
use Rattle.path_rules.specs.declared.rules.Style.{Style}
use Rattle.path_building.specs.declared.styles.StyleError.TheVariants as style_error
use Rattle.path_building.specs.Restyled.{IsRestyled, IsStyleFault}
use Rattle.os_path.specs.declared.styles.ConvertError.{ConvertError}
use Rattle.os_path.specs.declared.styles.ConvertError.TheVariants as error

-- why there is none: the style can't have a component, or the bytes that it would have aren't a string of the platform
abbrev pub IsConvertFault : Style → Style → (List ℕ → EncodingError → Type 0) → List ℕ → ConvertError → Type 0
IsConvertFault from to is_fault path (error.Component index) = IsStyleFault from to path (style_error.Component index)
IsConvertFault from to is_fault path (error.Encoding fault) = (made : List ℕ) × (IsRestyled from to path made × is_fault made fault)
IsConvertFault from to is_fault path error.Memory = Unit {0}
