-- Bytes have one first and one last character.
use Rattle.std.proofs.Common.{◌≡◌, ℕ, ◌+◌, List, [], ◌++◌, length, Option, Some, None, IsSomeAnd, refl, sym, ap, ◌∙◌, subst, append-nil, length-append}
use Rattle.std.specs.Char.{IsScalar, encode_utf8}
use Rattle.std.proofs.lemmas.Str.{encode_same}
use Rattle.wtf8_core.specs.Character.{WholeCharacter}
use Rattle.wtf8_core.specs.CodePoint.{encode}
use Rattle.os_str_ext.specs.Characters.{SplitsFirstChar, SplitsLastChar}

-- what std's `encode_utf8` writes of a scalar value is a whole character, wherever it occurs
encoded_occurs : ((c : ℕ) → encode c ≡ encode_utf8 c) → (s before rest : List ℕ) (c : ℕ) → IsScalar c → s ≡ before ++ (encode_utf8 c ++ rest) → WholeCharacter s (length before) (length before + length (encode_utf8 c))
encoded_occurs forms s before rest c scalar e = record {
  char = c;
  scalar = scalar;
  occurs = record { before = before; after = rest; joined = e ∙ ap (λ x. before ++ (x ++ rest)) (sym (forms c)); index = refl };
  end = ap (λ x. length before + length x) (sym (forms c));
}

module _ {T : Type 0} (of : T → List ℕ) (forms : (c : ℕ) → encode c ≡ encode_utf8 c) (s rest : List ℕ) (c : ℕ) where
  pub only_first : s ≡ encode_utf8 c ++ rest → IsScalar c → (r : Option (ℕ × T)) → SplitsFirstChar of s r → IsSomeAnd r (λ parts. (parts.0 ≡ c) × (of parts.1 ≡ rest))
  only_first e scalar None h = absurd (h _ (encoded_occurs forms s [] rest c scalar e))
  only_first e scalar (Some parts) h = encode_same parts.0 c (of parts.1) rest (sym h ∙ e)

  pub only_last : s ≡ rest ++ encode_utf8 c → IsScalar c → (r : Option (ℕ × T)) → SplitsLastChar of s r → IsSomeAnd r (λ parts. of parts.1 ++ encode_utf8 parts.0 ≡ rest ++ encode_utf8 c)
  only_last e scalar None h =
      let occurs = encoded_occurs forms s rest [] c scalar (e ∙ ap (λ x. rest ++ x) (sym (append-nil (encode_utf8 c)))) in
      let end : length rest + length (encode_utf8 c) ≡ length s = sym (ap length e ∙ length-append rest (encode_utf8 c)) in
      absurd (h _ (subst (λ n. WholeCharacter s (length rest) n) end occurs))
  only_last e scalar (Some parts) h = sym h ∙ e
