-- What takes as many columns as a text, character by character.
use Rattle.std.proofs.Common.{◌≡◌, ℕ, List, [], ◌++◌, sym, ap, ◌∙◌, append_assoc, append-nil}
use Rattle.std.specs.Char.{encode_utf8}
use Rattle.std.specs.List.{flat_map}
use Rattle.std.specs.Str.{IsUtf8}
use Rattle.std.proofs.lemmas.Str.{IsUtf8-past_char, chars_past_char, chars-nil}
use Rattle.names_commands.specs.Caret.{as_wide, spaces_below}

-- the text after a character is UTF-8
pub after_character : (text following : List ℕ) (c : ℕ) → IsUtf8 text → text ≡ encode_utf8 c ++ following → IsUtf8 following
after_character text following c u e = IsUtf8-past_char text following c u e

-- a character and the rest
pub one_more : (text following : List ℕ) (c : ℕ) → IsUtf8 text → text ≡ encode_utf8 c ++ following → spaces_below text ≡ as_wide c ++ spaces_below following
one_more text following c u e = ap (λ cs. flat_map as_wide cs) (chars_past_char text following c u e)

-- no character
pub no_more : (text : List ℕ) → text ≡ [] → spaces_below text ≡ []
no_more text e = ap spaces_below e ∙ ap (flat_map as_wide) chars-nil

-- what is written so far and what is as wide as the rest are what they were, after one more character
pub after_one : (line longer whole text following : List ℕ) (c : ℕ) → IsUtf8 text → text ≡ encode_utf8 c ++ following → longer ≡ line ++ as_wide c → line ++ spaces_below text ≡ whole → longer ++ spaces_below following ≡ whole
after_one line longer whole text following c u e pushed said =
    ap (λ z. z ++ spaces_below following) pushed ∙ append_assoc line (as_wide c) (spaces_below following) ∙ sym (ap (λ z. line ++ z) (one_more text following c u e)) ∙ said

-- and at the end nothing is left
pub at_end : (line whole text : List ℕ) → text ≡ [] → line ++ spaces_below text ≡ whole → line ≡ whole
at_end line whole text e said = sym (append-nil line) ∙ sym (ap (λ z. line ++ z) (no_more text e)) ∙ said
