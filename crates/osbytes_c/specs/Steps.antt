-- One step of an iterator, which knows only an index.
use Rattle.std.specs.Prelude.{◌≡◌, ◌⊎◌, ◌+◌, ◌-◌, slice_index_or, ℕ, zero, suc, ◌≤◌, ◌<◌, true, false, List, [], ◌∷◌, length, take, drop}
use Rattle.std.specs.Char.{IsScalar, encode_utf8}
use Rattle.std.specs.Str.{IsUtf8}
use Rattle.wtf8_core.specs.Occurrence.{OccursNowhere, IsFirstIndex, IsLastIndex}
use Rattle.os_str_ext.specs.Pieces.{SplitsAt}
use Rattle.wtf8_core.specs.Chunks.{Chunk, AreChunks}
use Rattle.osbytes_c.specs.declared.walks.split.Piece.{Piece}
use Rattle.wtf8_core.specs.UnitsOf.{units_of}
use Rattle.wtf8_core.specs.Wtf8.{IsWtf8}
use Rattle.wtf8_core.specs.Covered.{StartsWithNoCharacter}
use Rattle.os_str_ext.specs.Parts.{unit_number}
use Rattle.os_str_ext.specs.Symbols.{AreSymbols}
use Rattle.os_str_ext.specs.declared.symbols.Symbol.{Symbol}
use Rattle.os_str_ext.specs.declared.symbols.Symbol.TheVariants as symbol
use Rattle.osbytes_c.specs.declared.walks.chunks.Ends.{Ends}
use Rattle.osbytes_c.specs.declared.walks.symbols.Step.{Step}
use Rattle.osbytes_c.specs.Faults.{IsString}
use Rattle.osbytes_c.specs.Platforms.{units_on}

-- the part of s from i up to j
abbrev pub part : List ℕ → ℕ → ℕ → List ℕ
part s i j = drop i (take j s)

-- bytes by which nothing is split
abbrev pub IsNoPattern : List ℕ → Type 0
IsNoPattern p = (¬ (IsUtf8 p)) ⊎ (p ≡ [])

-- after index `at` the first piece of s ends at index `edge`, where p occurs for the first time
abbrev pub IsFirstCut : List ℕ → List ℕ → ℕ → ℕ → Type 0
IsFirstCut p s at edge = SplitsAt IsFirstIndex p (drop at s) (part s at edge) (drop (edge + length p) s)

-- before index `at` the last piece of s starts at index `edge`, and what is before p, which occurs there for the last time, ends at index `rest`
abbrev pub IsLastCut : List ℕ → List ℕ → ℕ → ℕ → ℕ → Type 0
IsLastCut p s at edge rest = SplitsAt IsLastIndex p (take at s) (take rest s) (part s edge at)

-- after index `at` s has this first piece: all of it, if p doesn't occur there; or what comes before the first occurrence of p, after which the rest starts
abbrev pub IsFirstPiece : List ℕ → List ℕ → ℕ → Piece → Type 0
IsFirstPiece p s at piece =
    elim piece.last [
      | true ↦ OccursNowhere p (drop at s) × (piece.edge ≡ length s)
      | false ↦ SplitsAt IsFirstIndex p (drop at s) (part s at piece.edge) (drop piece.rest s)
    ]

-- before index `at` s has this last piece: all of it, if p doesn't occur there; or what comes after the last occurrence of p, before which the rest ends
abbrev pub IsLastPiece : List ℕ → List ℕ → ℕ → Piece → Type 0
IsLastPiece p s at piece =
    elim piece.last [
      | true ↦ OccursNowhere p (take at s) × (piece.edge ≡ 0)
      | false ↦ IsLastCut p s at piece.edge piece.rest
    ]

-- after index `at` s has this first chunk, and after it those of the rest
pub record IsChunkAt (s : List ℕ) (at : ℕ) (ends : Ends) : Type 0 where
  pub after : List Chunk
  pub all : AreChunks (drop at s) ((part s at ends.part, part s ends.part ends.text) ∷ after)
  pub rest : AreChunks (drop ends.text s) after
  pub ordered : at ≤ ends.part
  pub text_ordered : ends.part ≤ ends.text
  pub within : ends.text ≤ length s

-- the kind and the value of a symbol: 1 and the character, or 2 and the unit's number
abbrev pub Reports : Symbol → ℕ → ℕ → Type 0
Reports (symbol.Character c) kind value = (kind ≡ 1) × (value ≡ c)
Reports (symbol.Unit u) kind value = (kind ≡ 2) × (value ≡ unit_number u)

-- after index `at` the string s of the platform has this first symbol, and after it those of the rest, which is a string too
pub record IsSymbolAt (platform : ℕ) (s : List ℕ) (at : ℕ) (step : Step) : Type 0 where
  pub first : Symbol
  pub after : List Symbol
  pub is : Reports first step.kind step.value
  pub all : AreSymbols (units_on platform) (drop at s) (first ∷ after)
  pub rest : AreSymbols (units_on platform) (drop step.end s) after
  pub formed : IsString platform (drop step.end s)
  pub ordered : at < step.end
  pub within : step.end ≤ length s

-- the same of the whole string
abbrev pub IsFirstOf : ℕ → List ℕ → Step → Type 0
IsFirstOf platform s step = IsSymbolAt platform s 0 step

-- three bytes, which are WTF-8, are the form of this surrogate
pub record IsSurrogatePrefix (s : List ℕ) (unit : ℕ) : Type 0 where
  pub within : 3 ≤ length s
  pub formed : IsWtf8 (take 3 s)
  pub units_are : units_of (take 3 s) ≡ unit ∷ []

-- bytes that aren't empty begin with no symbol of the platform: on Windows with no whole character and no form of a surrogate, on wasm with no whole character
abbrev pub StartsWithNoSymbol : ℕ → List ℕ → Type 0
StartsWithNoSymbol zero s = ⊥
StartsWithNoSymbol (suc zero) s = StartsWithNoCharacter s × ((unit : ℕ) → ¬ (IsSurrogatePrefix s unit))
StartsWithNoSymbol (suc (suc zero)) s = StartsWithNoCharacter s
StartsWithNoSymbol (suc (suc (suc n))) s = ⊥

-- bytes that begin with no whole character begin with this unit of the platform, which has this length: a byte of Unix, or a surrogate of Windows
abbrev pub StartsWithUnit : ℕ → List ℕ → ℕ → ℕ → Type 0
StartsWithUnit zero s value len = (value ≡ slice_index_or s 0 0) × (len ≡ 1)
StartsWithUnit (suc zero) s value len = IsSurrogatePrefix s value × (len ≡ 3)
StartsWithUnit (suc (suc n)) s value len = ⊥

-- bytes begin with this symbol of the platform, which has as many bytes as the step's end says, whatever follows: with a whole character, or else with a unit
abbrev pub StartsWithSymbol : ℕ → List ℕ → Step → Type 0
StartsWithSymbol platform s step =
    ((step.kind ≡ 1) × (IsScalar step.value × (take step.end s ≡ encode_utf8 step.value)))
    ⊎ ((step.kind ≡ 2) × (StartsWithNoCharacter s × StartsWithUnit platform s step.value step.end))

-- the same step, from an index on
abbrev pub step_after : ℕ → Step → Step
step_after at step = record { kind = step.kind; value = step.value; end = step.end - at }
