-- What three small tables say of neighbouring bytes, bit by bit (Keiser and Lemire, "Validating UTF-8 in less than one instruction per byte"). Only private contracts name these.
use Rattle.std.specs.Prelude.{ℕ, ◌-◌, ◌/◌, slice_index, bit_and, bit_or, bit_xor}
use Rattle.wtf8_core.specs.declared.vectors.error_bits.TheConstants.{FIRST_HIGH, FIRST_LOW, SECOND_HIGH}

-- what is wrong with the byte b after z
abbrev pub pair_bits : ℕ → ℕ → ℕ
pair_bits z b = bit_and (bit_and (slice_index FIRST_HIGH (z / 16)) (slice_index FIRST_LOW (bit_and z 15))) (slice_index SECOND_HIGH (b / 16))

-- 80 if x is the lead of four bytes, or y of three or four, and else 0
abbrev pub continuation_due : ℕ → ℕ → ℕ
continuation_due x y = bit_and (bit_or (x - 0x70) (y - 0x60)) 0x80

-- what is wrong with the byte b after x, y and z
abbrev pub error_bits : ℕ → ℕ → ℕ → ℕ → ℕ
error_bits x y z b = bit_xor (pair_bits z b) (continuation_due x y)

-- 0 if b begins a low surrogate directly after a high one
abbrev pub surrogate_pair_difference : ℕ → ℕ → ℕ → ℕ → ℕ
surrogate_pair_difference w x z b = bit_or (bit_or (bit_xor w 0xED) (bit_xor z 0xED)) (bit_or (bit_xor (bit_and x 0xF0) 0xA0) (bit_xor (bit_and b 0xF0) 0xB0))
