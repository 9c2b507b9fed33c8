-- What an error prints.
use Rattle.std.specs.Prelude.{ℕ, List, ◌++◌, codes, decimal}
use Rattle.glob_text.specs.declared.fault.FaultKind.{FaultKind}
use Rattle.glob_text.specs.declared.fault.FaultKind.TheVariants.{UnclosedClass, ReversedRange, UnknownClassName, DanglingEscape, UnclosedAlternatives, UnopenedAlternatives, TooManyChoices}
use Rattle.glob_patterns.specs.declared.error.GlobError.{GlobError}
use Rattle.glob_patterns.specs.declared.error.GlobError.TheVariants.{Pattern, Memory}
use Rattle.glob_patterns.specs.declared.set_error.GlobSetError.{GlobSetError}
use Rattle.glob_patterns.specs.declared.set_error.GlobSetError.TheVariants as set

-- what is wrong
abbrev pub kind_text : FaultKind → List ℕ
kind_text UnclosedClass = codes "unclosed class"
kind_text ReversedRange = codes "reversed range"
kind_text UnknownClassName = codes "unknown class name"
kind_text DanglingEscape = codes "dangling escape"
kind_text UnclosedAlternatives = codes "unclosed alternatives"
kind_text UnopenedAlternatives = codes "unopened alternatives"
kind_text TooManyChoices = codes "too many choices"

-- what is wrong, and where
abbrev pub error_text : GlobError → List ℕ
error_text (Pattern fault) = kind_text fault.kind ++ (codes " at byte " ++ decimal fault.index)
error_text Memory = codes "out of memory"

-- of the patterns of a set, also which
abbrev pub set_error_text : GlobSetError → List ℕ
set_error_text (set.Pattern index fault) = codes "pattern " ++ (decimal index ++ (codes ": " ++ (kind_text fault.kind ++ (codes " at byte " ++ decimal fault.index))))
set_error_text set.Memory = codes "out of memory"
