-- What three octal digits mean.
use Rattle.std.proofs.Common.{◌≡◌, ◌≢◌, ℕ, ◌+◌, ◌/◌, ◌%◌, ◌<◌, Bool, true, ◌||◌, ◌&&◌, eqb, [], ◌∷◌, refl, ap, ◌∙◌, Some, inl, inr}
use Rattle.std.proofs.lemmas.Bool.{eqb-true, and_parts}
use Rattle.wtf8_core.proofs.lemmas.vectors.ComputedTests.{all_below, each_below}
use Rattle.os_command_line.specs.Shell.{is_octal, is_some_byte, octal_value, octal_meaning, escape_meaning}
use Rattle.os_command_line.proofs.lemmas.ShellOneReading.{or_true}

-- a byte of a name: no NUL
abbrev pub IsNameByte : ℕ → Type 0
IsNameByte b = (b < 0x100) × (b ≢ 0)

abbrev is_right : ℕ → Bool
is_right b =
    eqb b 0
    || (is_octal (0x30 + b / 64 % 8)
    && (is_octal (0x30 + b / 8 % 8) && (is_octal (0x30 + b % 8) && (is_some_byte (octal_value (0x30 + b / 64 % 8) (0x30 + b / 8 % 8) (0x30 + b % 8)) && eqb (octal_value (0x30 + b / 64 % 8) (0x30 + b / 8 % 8) (0x30 + b % 8)) b))))

all_right : all_below is_right 0x100 ≡ true
all_right = refl

three_mean : (c d e : ℕ) → is_octal c ≡ true → is_octal d ≡ true → is_octal e ≡ true → is_some_byte (octal_value c d e) ≡ true → octal_meaning c d e ≡ Some (octal_value c d e)
three_mean c d e p q r s = rw (p, q, r, s) refl

digits_mean : (b c d e : ℕ) → is_octal c && (is_octal d && (is_octal e && (is_some_byte (octal_value c d e) && eqb (octal_value c d e) b))) ≡ true → octal_meaning c d e ≡ Some b
digits_mean b c d e h =
    let p = and_parts (is_octal c) _ h in
    let q = and_parts (is_octal d) _ p.1 in
    let r = and_parts (is_octal e) _ q.1 in
    let s = and_parts (is_some_byte (octal_value c d e)) (eqb (octal_value c d e) b) r.1 in
    three_mean c d e p.0 q.0 r.0 s.0 ∙ ap Some (eqb-true (octal_value c d e) b s.1)

pub octal_means : (b : ℕ) → IsNameByte b → escape_meaning ((0x30 + b / 64 % 8) ∷ (0x30 + b / 8 % 8) ∷ (0x30 + b % 8) ∷ []) ≡ Some b
octal_means b h = elim (or_true (eqb b 0) _ (each_below is_right 0x100 b all_right h.0)) [ inl e ↦ absurd (h.1 (eqb-true b 0 e)) | inr r ↦ digits_mean b (0x30 + b / 64 % 8) (0x30 + b / 8 % 8) (0x30 + b % 8) r ]
