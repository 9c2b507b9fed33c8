-- The letters of a string, which are numbers: a character's is its code point, and a unit's is above all of them.
use Rattle.std.specs.Prelude.{ℕ, ◌+◌, List, map}
use Rattle.os_str_ext.specs.Parts.{unit_number}
use Rattle.os_str_ext.specs.Symbols.{symbols_of}
use Rattle.os_str_ext.specs.declared.symbols.Symbol.{Symbol}
use Rattle.os_str_ext.specs.declared.symbols.Symbol.TheVariants.{Character, Unit as LoneUnit}

-- the letter of a symbol
abbrev pub symbol_letter : Symbol → ℕ
symbol_letter (Character c) = c
symbol_letter (LoneUnit u) = 0x11_0000 + unit_number u

-- the letters of a string, by the units of its platform
abbrev pub letters_of : (List ℕ → List ℕ) → List ℕ → List ℕ
letters_of units s = map symbol_letter (symbols_of units s)
