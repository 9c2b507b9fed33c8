-- Surrogates: the code points that pairs of 16-bit units are made of (RFC 2781, section 2). They aren't scalar values; a WTF-8 string may have lone ones.
use Rattle.std.specs.Prelude.{◌≡◌, ℕ, ◌+◌, ◌-◌, ◌*◌, ◌/◌, ◌%◌, ◌≤◌, ◌&&◌, Bool, List, slice_index}
use Rattle.std.specs.Int.{IsInRange, is_in_range}

-- a high surrogate, which begins a pair of units (WTF-8: a lead surrogate)
abbrev pub IsHigh : ℕ → Type 0
IsHigh c = IsInRange 0xD800 0xDBFF c

-- a low surrogate, which ends one (WTF-8: a trail surrogate)
abbrev pub IsLow : ℕ → Type 0
IsLow c = IsInRange 0xDC00 0xDFFF c

-- a surrogate, high or low
abbrev pub IsSurrogate : ℕ → Type 0
IsSurrogate c = IsInRange 0xD800 0xDFFF c

-- whether a code point is a high surrogate
abbrev pub is_high : ℕ → Bool
is_high c = is_in_range 0xD800 0xDBFF c

-- whether it is a low one
abbrev pub is_low : ℕ → Bool
is_low c = is_in_range 0xDC00 0xDFFF c

-- whether it is one or the other
abbrev pub is_surrogate : ℕ → Bool
is_surrogate c = is_in_range 0xD800 0xDFFF c

-- whether two units are a pair, a high one and then a low one (RFC 2781, section 2.2)
abbrev pub is_pair : ℕ → ℕ → Bool
is_pair u v = is_high u && is_low v

-- the units of a code point past FFFF, the high one and the low one (RFC 2781, section 2.1)
abbrev pub high_unit : ℕ → ℕ
high_unit c = 0xD800 + (c - 0x1_0000) / 0x400

abbrev pub low_unit : ℕ → ℕ
low_unit c = 0xDC00 + (c - 0x1_0000) % 0x400

-- the code point of a pair (RFC 2781, section 2.2)
abbrev pub paired : ℕ → ℕ → ℕ
paired u v = 0x1_0000 + (u - 0xD800) * 0x400 + (v - 0xDC00)

-- in WTF-8 a surrogate's form begins at index i: ED, and then a byte from A0 on (RFC 3629, section 4)
abbrev pub IsSurrogateAt : List ℕ → ℕ → Type 0
IsSurrogateAt b i = (slice_index b i ≡ 0xED) × (0xA0 ≤ slice_index b (i + 1))
