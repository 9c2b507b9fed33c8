-- What the exports return.
use Rattle.std.specs.Prelude.{◌≡◌, ◌⊎◌, ℕ, suc, ◌+◌, ◌%◌, ◌^◌, ◌≤◌, List, [], ◌∷◌, length, take, drop}
use Rattle.std.specs.List.{repeat}
use Rattle.wtf8_core.specs.declared.fault.EncodingError.{EncodingError}
use Rattle.wtf8_core.specs.Checker.{HasFirstFault}
use Rattle.os_str_ext.specs.Parts.{unit_number}
use Rattle.os_str_ext.specs.declared.symbols.Symbol.{Symbol}
use Rattle.os_str_ext.specs.declared.symbols.Symbol.TheVariants.{Character}
use Rattle.os_str_ext.specs.declared.symbols.Symbol.TheVariants as symbol

-- the bytes aren't WTF-8: they have a first fault
abbrev pub IsFaulty : List ℕ → Type 0
IsFaulty bytes = (fault : EncodingError) × HasFirstFault bytes fault

-- the first `count` items of the new list are wanted ones, and those after them are as they were
pub record IsFilled (Wanted : List ℕ → Type 0) (old new : List ℕ) (count : ℕ) : Type 0 where
  pub same_length : length new ≡ length old
  pub within : count ≤ length new
  pub prefix : Wanted (take count new)
  pub after : drop count new ≡ drop count old

-- a call returns an index or a length, for which `Is` holds; or `none`, where there is none
abbrev pub AnswersOr : ℕ → Type 0 → (ℕ → Type 0) → ℕ → Type 0
AnswersOr none Nothing Is answer = (Nothing × (answer ≡ none)) ⊎ Is answer

-- the string with the units of `part`, repeated `count` times, has this many bytes
abbrev pub IsRepeatedLength : (List ℕ → Type 0) → (List ℕ → List ℕ) → List ℕ → ℕ → ℕ → Type 0
IsRepeatedLength well_formed units part count len = (all : List ℕ) × (well_formed all × (units all ≡ repeat count (units part))) × (len ≡ length all)

-- the number of a symbol's character or unit
abbrev pub symbol_number : Symbol → ℕ
symbol_number (Character c) = c
symbol_number (symbol.Unit u) = unit_number u

-- a sum with the number of one more symbol, modulo 2 ^ 64
abbrev pub add_symbol : ℕ → Symbol → ℕ
add_symbol sum s = (sum + symbol_number s) % 2 ^ 64

-- the bytes, cut into pieces of these lengths
abbrev pub pieces_of : List ℕ → List ℕ → List (List ℕ)
pieces_of [] bytes = []
pieces_of (n ∷ ns) bytes = take n bytes ∷ pieces_of ns (drop n bytes)

-- such pieces lie within the bytes
abbrev pub Fit : List ℕ → List ℕ → Type 0
Fit [] bytes = Unit {0}
Fit (n ∷ ns) bytes = (n ≤ length bytes) × Fit ns (drop n bytes)

-- the number of the strings for which `Is` holds
abbrev pub IsCount : (List ℕ → Type 0) → List (List ℕ) → ℕ → Type 0
IsCount Is [] n = n ≡ 0
IsCount Is (s ∷ ss) n = (Is s × ((fewer : ℕ) × (n ≡ suc fewer) × IsCount Is ss fewer)) ⊎ ((Is s → ⊥) × IsCount Is ss n)
