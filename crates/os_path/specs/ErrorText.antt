-- What an error prints.
use Rattle.std.specs.Prelude.{ℕ, List, ◌++◌, codes, decimal}
use Rattle.wtf8_core.specs.FaultText.{fault_text}
use Rattle.os_path.specs.declared.styles.ConvertError.{ConvertError}
use Rattle.os_path.specs.declared.styles.ConvertError.TheVariants as error

-- why a path of another platform can't have a path's components
abbrev pub convert_error_text : ConvertError → List ℕ
convert_error_text (error.Component index) = codes "the platform can't have component " ++ decimal index
convert_error_text (error.Encoding fault) = fault_text fault
convert_error_text error.Memory = codes "out of memory"
