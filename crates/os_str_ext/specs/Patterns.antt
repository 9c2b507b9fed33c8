-- The text of a `char` is never empty.
use Rattle.std.specs.Prelude.{◌<◌, ◌↔◌, ℕ, List, length}
use Rattle.std.specs.Char.{encode_utf8}
use Rattle.std.proofs.Common.{sym, subst}
use Rattle.std.proofs.lemmas.Str.{length-encode, len_utf8_bounds}

-- for a pattern that may be any text, `not_empty` is just that it has a byte
abbrev pub either_way : (p : List ℕ) → (0 < length p) ↔ (0 < length p)
either_way p = (λ h. h, λ h. h)

-- a character has at least one byte
pub char_has_bytes : (c : ℕ) → Unit {0} ↔ (0 < length (encode_utf8 c))
char_has_bytes c = (λ _. subst (λ n. 0 < n) (sym (length-encode c)) (len_utf8_bounds c).0, λ _. tt)
