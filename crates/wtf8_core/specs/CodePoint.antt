-- Code points, their bytes (RFC 3629, section 3) and their units, 16-bit code units (RFC 2781, section 2.1); for surrogates WTF-8.
use Rattle.std.specs.Prelude.{ℕ, ◌+◌, ◌/◌, ◌%◌, ◌≤◌, nat_lt, if◌then◌else◌, List, [], ◌∷◌}
use Rattle.wtf8_core.specs.Surrogate.{high_unit, low_unit}

-- a number that is a code point of Unicode
abbrev pub IsCodePoint : ℕ → Type 0
IsCodePoint c = c ≤ 0x10_FFFF

-- the bytes of a code point (RFC 3629, section 3); of a surrogate those of generalized UTF-8 (WTF-8)
unfoldable pub encode : ℕ → List ℕ
encode c =
    if nat_lt c 0x80 then c ∷ []
    else (if nat_lt c 0x800 then (0xC0 + c / 0x40) ∷ (0x80 + c % 0x40) ∷ []
    else (if nat_lt c 0x1_0000 then (0xE0 + c / 0x1000) ∷ (0x80 + (c / 0x40) % 0x40) ∷ (0x80 + c % 0x40) ∷ []
    else (0xF0 + c / 0x4_0000) ∷ (0x80 + (c / 0x1000) % 0x40) ∷ (0x80 + (c / 0x40) % 0x40) ∷ (0x80 + c % 0x40) ∷ []))

-- the 16-bit units of a code point (RFC 2781, section 2.1)
unfoldable pub encode_utf16 : ℕ → List ℕ
encode_utf16 c =
    if nat_lt c 0x1_0000 then c ∷ []
    else high_unit c ∷ low_unit c ∷ []
