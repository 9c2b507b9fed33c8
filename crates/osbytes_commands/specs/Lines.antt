-- Units, pieces and chunks as lines of hexadecimal digits, and an index as a line.
use Rattle.std.specs.Prelude.{◌≡◌, ◌≢◌, ℕ, ◌+◌, ◌/◌, ◌%◌, ◌^◌, ◌<◌, nat_lt, if◌then◌else◌, List, [], ◌∷◌, ◌++◌, length, All, codes, decimal, Option, None, Some}
use Rattle.std.specs.List.{flat_map}
use Rattle.os_str_bytes.specs.Chunks.{Chunk}
use Rattle.program_frame.specs.declared.os.Os.{Os}
use Rattle.program_frame.specs.declared.os.Os.TheVariants.{Unix, Windows, Wasm}

-- a unit of the platform: a byte, on Windows a number of 16 bits
abbrev pub IsUnit : Os → ℕ → Type 0
IsUnit Unix u = u < 2 ^ 8
IsUnit Windows u = u < 2 ^ 16
IsUnit Wasm u = u < 2 ^ 8

-- `0` to `9`, then `a` to `f`
abbrev pub hex_digit : ℕ → ℕ
hex_digit d = if nat_lt d 10 then 48 + d else 87 + d

-- the two digits of a byte
abbrev pub lower_byte_digits : ℕ → List ℕ
lower_byte_digits b = hex_digit (b / 0x10) ∷ hex_digit (b % 0x10) ∷ []

-- the four digits of a number of 16 bits
abbrev pub lower_wide_digits : ℕ → List ℕ
lower_wide_digits u = lower_byte_digits (u / 0x100) ++ lower_byte_digits (u % 0x100)

-- the digits of a unit and a newline
abbrev pub unit_line : Os → ℕ → List ℕ
unit_line Unix u = lower_byte_digits u ++ codes "\n"
unit_line Windows u = lower_wide_digits u ++ codes "\n"
unit_line Wasm u = lower_byte_digits u ++ codes "\n"

-- a line for each unit, in their order
abbrev pub unit_lines : Os → List ℕ → List ℕ
unit_lines os us = flat_map (unit_line os) us

-- the bytes are the lines of these units
pub record AreUnitLines (os : Os) (bytes us : List ℕ) : Type 0 where
  pub lines : bytes ≡ unit_lines os us
  pub units : All (IsUnit os) us

-- the line of some unit comes first
abbrev pub BeginsWithUnitLine : Os → List ℕ → Type 0
BeginsWithUnitLine os bytes = (u : ℕ) × IsUnit os u × ((rest : List ℕ) × (bytes ≡ unit_line os u ++ rest))

-- the first line that isn't a unit's, counted from 1: the lines before it are units', and the bytes from it on begin with none
pub record IsFirstBadLine (os : Os) (bytes : List ℕ) (number : ℕ) : Type 0 where
  pub before : List ℕ
  pub from : List ℕ
  pub joined : bytes ≡ unit_lines os before ++ from
  pub units : All (IsUnit os) before
  pub some : from ≢ []
  pub bad : ¬ (BeginsWithUnitLine os from)
  pub number_is : number ≡ length before + 1

-- the index of a pattern in decimal digits, or `none`, and a newline
abbrev pub index_line : Option ℕ → List ℕ
index_line None = codes "none\n"
index_line (Some index) = decimal index ++ codes "\n"

-- two digits for each byte of a piece, or `-` where it has none
abbrev pub piece_digits : List ℕ → List ℕ
piece_digits [] = codes "-"
piece_digits (byte ∷ after) = flat_map lower_byte_digits (byte ∷ after)

-- a line for each piece, in their order
abbrev pub piece_lines : List (List ℕ) → List ℕ
piece_lines pieces = flat_map (λ piece. piece_digits piece ++ codes "\n") pieces

-- a line for each chunk, in their order: its part, a space and its text
abbrev pub chunk_lines : List Chunk → List ℕ
chunk_lines chunks = flat_map (λ chunk. piece_digits chunk.0 ++ (codes " " ++ (piece_digits chunk.1 ++ codes "\n"))) chunks
