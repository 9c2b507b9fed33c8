-- The characters that the escape on one line writes as tokens, beside the backslash.
use Rattle.std.specs.Prelude.{ℕ, ◌||◌, Bool, false, List, [], ◌∷◌}
use Rattle.std.specs.Int.{is_in_range}

-- the first and the last of each range, in order, by Unicode 18.0. They are the characters of the general categories Cc (controls), Cf (format characters), Zl and Zp (line and paragraph separators), Co (private use), and Zs (blanks) but the space U+0020. Next are the code points of the properties Default_Ignorable_Code_Point and Noncharacter_Code_Point. Four symbols and signs are blanks by their code charts: U+2800, the braille pattern without dots, U+13441 and U+13442, the full and the half blank of hieroglyphs, and U+1D159, the note head that isn't there. The last range has the planes 4 to 16, in which no character has a sign
abbrev pub hidden_ranges : List (ℕ × ℕ)
hidden_ranges =
    (0x00, 0x1F)
    ∷ (0x7F, 0xA0)
    ∷ (0xAD, 0xAD)
    ∷ (0x34F, 0x34F)
    ∷ (0x600, 0x605)
    ∷ (0x61C, 0x61C)
    ∷ (0x6DD, 0x6DD)
    ∷ (0x70F, 0x70F)
    ∷ (0x890, 0x891)
    ∷ (0x8E2, 0x8E2)
    ∷ (0x115F, 0x1160)
    ∷ (0x1680, 0x1680)
    ∷ (0x17B4, 0x17B5)
    ∷ (0x180B, 0x180F)
    ∷ (0x2000, 0x200F)
    ∷ (0x2028, 0x202F)
    ∷ (0x205F, 0x206F)
    ∷ (0x2800, 0x2800)
    ∷ (0x3000, 0x3000)
    ∷ (0x3164, 0x3164)
    ∷ (0xE000, 0xF8FF)
    ∷ (0xFDD0, 0xFDEF)
    ∷ (0xFE00, 0xFE0F)
    ∷ (0xFEFF, 0xFEFF)
    ∷ (0xFFA0, 0xFFA0)
    ∷ (0xFFF0, 0xFFFB)
    ∷ (0xFFFE, 0xFFFF)
    ∷ (0x1_10BD, 0x1_10BD)
    ∷ (0x1_10CD, 0x1_10CD)
    ∷ (0x1_3430, 0x1_343F)
    ∷ (0x1_3441, 0x1_3442)
    ∷ (0x1_BCA0, 0x1_BCA3)
    ∷ (0x1_D159, 0x1_D159)
    ∷ (0x1_D173, 0x1_D17A)
    ∷ (0x1_FFFE, 0x1_FFFF)
    ∷ (0x2_FFFE, 0x2_FFFF)
    ∷ (0x3_FFFE, 0x3_FFFF)
    ∷ (0x4_0000, 0x10_FFFF)
    ∷ []

-- a code point of one of the ranges
abbrev pub is_in_ranges : List (ℕ × ℕ) → ℕ → Bool
is_in_ranges [] c = false
is_in_ranges (range ∷ ranges) c = is_in_range range.0 range.1 c || is_in_ranges ranges c
