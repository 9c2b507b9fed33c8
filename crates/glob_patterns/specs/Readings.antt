-- That the letters of a platform's strings are read by the laws.
use Rattle.std.specs.Prelude.{ℕ, List}
use Rattle.wildcards.specs.Reading.{LetterLaws}
use Rattle.wtf8_core.specs.OccurrenceLaws.{OccurrenceLaws}
use Rattle.platform_str.specs.Laws.{PlatformLaws, PartLaws}
use Rattle.wtf8_core.specs.declared.fault.EncodingError.{EncodingError}
use Rattle.glob_patterns.specs.Letters.{letters_of}
use Rattle.glob_patterns.specs.LetterReadings.{reading_laws}

pub letter_laws : {first_fault : List ℕ → EncodingError → Type 0} {well_formed : List ℕ → Type 0} {units : List ℕ → List ℕ} {is_unit_list io_safe : List ℕ → Type 0} {lossy : List ℕ → List ℕ} {replaces : List ℕ → ℕ → Type 0} {part_units : List ℕ → Type 0}
    → PlatformLaws first_fault well_formed units is_unit_list io_safe lossy replaces → PartLaws well_formed units part_units → OccurrenceLaws well_formed units → LetterLaws well_formed (letters_of units)
letter_laws {well_formed = well_formed} {units = units} laws parts occurrence = reading_laws well_formed units occurrence parts.encoded laws.cut_prefix laws.cut_suffix
