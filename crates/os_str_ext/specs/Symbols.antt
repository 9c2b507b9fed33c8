-- A string as symbols, from the first on: the characters of its texts and the units of its parts (this project's own words).
use Rattle.std.specs.Prelude.{◌≡◌, ℕ, pos, List, ◌++◌, map}
use Rattle.std.specs.{Char.encode_utf8, Hash.HashWrites, List.flat_map, Str.chars}
use Rattle.std.specs.Hash as fed
use Rattle.wtf8_core.specs.{Chunks.Chunk, Chunks.AreChunks, PartUnits.unit_bytes}
use Rattle.os_str_ext.specs.{Chunks.chunks_of, Parts.unit_number, declared.symbols.Symbol.Symbol, declared.symbols.Symbol.TheVariants.Character}
use Rattle.os_str_ext.specs.declared.symbols.Symbol.TheVariants as symbol

-- the symbol of a unit
abbrev pub unit_symbol : ℕ → Symbol
unit_symbol u = symbol.Unit (record { number = u })

-- the symbols of a chunk: the units of its part, then the characters of its text
abbrev pub chunk_symbols : (List ℕ → List ℕ) → Chunk → List Symbol
chunk_symbols units c = map unit_symbol (units c.0) ++ map Character (chars c.1)

-- the symbols of chunks, one after the other
abbrev pub chunks_symbols : (List ℕ → List ℕ) → List Chunk → List Symbol
chunks_symbols units chunks = flat_map (chunk_symbols units) chunks

-- these are the symbols of the string s; `units` gives the units of bytes on its platform
pub record AreSymbols (units : List ℕ → List ℕ) (s : List ℕ) (symbols : List Symbol) : Type 0 where
  pub chunks : List Chunk
  pub are_chunks : AreChunks s chunks
  pub are : symbols ≡ chunks_symbols units chunks

-- the bytes of a symbol
abbrev pub symbol_bytes : Symbol → List ℕ
symbol_bytes (Character c) = encode_utf8 c
symbol_bytes (symbol.Unit u) = unit_bytes (unit_number u)

-- what a hasher receives for a symbol: which of the two it is, and then the character or the unit's number
abbrev pub symbol_fed : Symbol → HashWrites
symbol_fed (Character c) = fed.isize (pos 0) ++ fed.char c
symbol_fed (symbol.Unit u) = fed.isize (pos 1) ++ fed.u16 (unit_number u)

-- the one list of symbols of a string
abbrev pub symbols_of : (List ℕ → List ℕ) → List ℕ → List Symbol
symbols_of units s = chunks_symbols units (chunks_of s)
