-- The units of a string, byte by byte: what a byte adds to them depends on the byte before it and the two after it (RFC 3629, section 3; RFC 2781, section 2.1). Only private contracts name these.
use Rattle.std.specs.Prelude.{ℕ, ◌+◌, ◌*◌, ◌/◌, ◌%◌, ◌||◌, ◌==◌, Bool, not, leb, nat_lt, if◌then◌else◌, List, [], ◌∷◌, ◌++◌, slice_index}
use Rattle.wtf8_core.specs.Truncated.{IsTruncated}

-- whether a byte adds a unit: a continuation doesn't, but for the one after a lead of four
abbrev pub adds_unit : ℕ → ℕ → Bool
adds_unit before first = leb 0xF0 before || not (first / 0x40 == 2)

-- the bits of a lead and a continuation, and of a lead and two
abbrev pub bits_of_two : ℕ → ℕ → ℕ
bits_of_two first second = first * 0x40 + second % 0x40

abbrev pub bits_of_three : ℕ → ℕ → ℕ → ℕ
bits_of_three first second third = (bits_of_two first second * 0x40 + third % 0x40) % 0x1_0000

-- the unit that it adds: ASCII itself, the low unit after a lead of four, the high unit at one, and else a code point
abbrev pub unit_at : ℕ → ℕ → ℕ → ℕ → ℕ
unit_at before first second third =
    if nat_lt first 0x80 then first
    else (if leb 0xF0 before then 0xDC00 + bits_of_three first second third % 0x400
    else (if leb 0xF0 first then 0xD7C0 + bits_of_three first second third / 0x10
    else (if leb 0xE0 first then bits_of_three first second third
    else bits_of_two first second % 0x800)))

abbrev pub units_by_neighbours : ℕ → ℕ → ℕ → ℕ → List ℕ
units_by_neighbours before first second third = if adds_unit before first then unit_at before first second third ∷ [] else []

-- what the bytes after the first add, one after another; bytes past the end count as 0
abbrev pub units_after_first : List ℕ → List ℕ
units_after_first [] = []
units_after_first (before ∷ []) = []
units_after_first (before ∷ b ∷ bytes) = units_by_neighbours before b (slice_index bytes 0) (slice_index bytes 1) ++ units_after_first (b ∷ bytes)

-- the items of a list at which a number has a bit, the first at the lowest
abbrev pub chosen : List ℕ → ℕ → List ℕ
chosen [] mask = []
chosen (x ∷ xs) mask = (if mask % 2 == 0 then [] else x ∷ []) ++ chosen xs (mask / 2)

-- units are appended to `count` others in a buffer, as far as there is room, and then there are `len`
abbrev pub Appends : List ℕ → List ℕ → ℕ → List ℕ → ℕ → Type 0
Appends units before count after len = (text old : List ℕ) → IsTruncated text old before count → IsTruncated (text ++ units) old after len
