-- The first and the last character of a string.
use Rattle.os_str_ext.proofs.Common.{◌≡◌, ℕ, ◌+◌, ◌<◌, List, [], ◌++◌, length, drop, inl, inr, sym, ap, ◌∙◌, subst, arith, append-nil, length-append, length-drop, encode_utf8, IsUtf8, nil_from_length, IsUtf8-encode, encode_same, IsBoundary, WholeCharacter, encode, begins_at, character_fits, form_bounds, form_encode, IsOneCharacter}

-- the bytes of one character are a text that isn't empty, and are its encoding by std
module _ (s : List ℕ) (h : IsOneCharacter s) where
  encoded : s ≡ encode_utf8 h.char
  encoded = h.is ∙ form_encode h.char

  pub text_of_one : IsUtf8 s
  text_of_one = subst IsUtf8 (sym encoded) (IsUtf8-encode h.char h.scalar)

  pub some_of_one : 0 < length s
  some_of_one = let b = form_bounds h.char in omega (arith, ap length h.is)

  pub one_encoded : (c : ℕ) (rest : List ℕ) → s ≡ encode_utf8 c ++ rest → s ≡ encode_utf8 c
  one_encoded c rest e =
      let same = encode_same h.char c [] rest (append-nil (encode_utf8 h.char) ∙ sym encoded ∙ e) in
      encoded ∙ ap encode_utf8 same.0

-- a character at the start
module _ (s : List ℕ) (n : ℕ) (w : WholeCharacter s 0 (0 + n)) where
  pub first_edge : IsBoundary s n
  first_edge = let z : 0 + n ≡ n = omega arith in record { is = inr (inr (inr (0, subst (WholeCharacter s 0) z w))) }

-- a character at the end
module _ (s : List ℕ) (i : ℕ) (w : WholeCharacter s i (length s)) where
  pub last_edge : IsBoundary s i
  last_edge = record { is = inr (inr (inl (length s, w))) }

  pub last_one : IsOneCharacter (drop i s)
  last_one =
      let f = encode w.char in
      let begins = begins_at s i (length s) w in
      let size : length (drop i s) ≡ length f + length w.occurs.after = ap length begins ∙ length-append f w.occurs.after in
      let none = nil_from_length w.occurs.after (omega (arith, size, length-drop i s, w.end, character_fits s i (length s) w)) in
      record { char = w.char; scalar = w.scalar; is = begins ∙ ap (λ r. f ++ r) none ∙ append-nil f }
