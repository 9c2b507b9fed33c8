-- The bytes of units, unit by unit: what a unit gives to them depends on the unit before it and the one after it (RFC 3629, section 3; RFC 2781, section 2.2). Only private contracts name these.
use Rattle.std.specs.Prelude.{ℕ, ◌/◌, if◌then◌else◌, List, [], ◌∷◌, ◌++◌, take, drop, slice_index}
use Rattle.std.specs.Int.{w32, to_le_bytes}
use Rattle.wtf8_core.specs.{CodePoint.encode, Surrogate.is_pair, Surrogate.paired}

-- of a pair's four bytes the high surrogate gives the first three and the low one the last; another unit gives its own
abbrev pub bytes_by_neighbours : ℕ → ℕ → ℕ → List ℕ
bytes_by_neighbours before unit after =
    if is_pair before unit then drop 3 (encode (paired before unit))
    else (if is_pair unit after then take 3 (encode (paired unit after)) else encode unit)

-- what the units after the first give, one after another; a unit past the end counts as 0
abbrev pub bytes_after_first : List ℕ → List ℕ
bytes_after_first [] = []
bytes_after_first (before ∷ []) = []
bytes_after_first (before ∷ u ∷ us) = bytes_by_neighbours before u (slice_index us 0) ++ bytes_after_first (u ∷ us)

-- the bytes in a word: its highest eight bits say how many, and its lowest have the first
abbrev pub word_bytes : ℕ → List ℕ
word_bytes w = take (w / 0x100_0000) (to_le_bytes w32 w)
