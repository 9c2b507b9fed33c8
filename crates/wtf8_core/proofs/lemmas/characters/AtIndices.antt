-- Whole characters: where the reader finds them, and what their indices are.
use Rattle.wtf8_core.proofs.Common.{◌≡◌, ℕ, ◌+◌, ◌-◌, ◌<◌, ◌≤◌, true, false, List, ◌∷◌, ◌++◌, length, take, drop, Option, Some, None, Ok, Err, refl, sym, ap, ◌∙◌, subst, arith, length-append, take-append-drop, IsScalar, is_surrogate, IsCodePoint, encode, WholeCharacter, IsCharacterAt, first_item, first_split, IsUtf8, IsUtf8-encode, take_at, drop_at, length-take-le, nat_tests, common_steps, low_scalar, EncodingError, encode_utf8, IsFirstChar, take-append_seam}
use Rattle.wtf8_core.proofs.lemmas.{reader.Sound.split_code_point, forms.Shapes.form_ascii, forms.Shapes.form_bounds, forms.ByStd.form_encode, forms.ByStd.form_same, reader.Complete.split_of_form}

-- no character begins the bytes
abbrev pub NoChar : List ℕ → Type 0
NoChar bytes = (c : ℕ) (rest : List ℕ) → IsScalar c → bytes ≡ encode c ++ rest → ⊥

-- scalars are code points, and no surrogates
pub scalar_point : (c : ℕ) → IsScalar c → IsCodePoint c
scalar_point c s = grind (arith, nat_tests, s)

pub scalar_no_surrogate : (c : ℕ) → IsScalar c → is_surrogate c ≡ true → ⊥
scalar_no_surrogate c s e = grind (arith, nat_tests, s)

-- a code point that is no surrogate is a scalar
pub is_scalar : (c : ℕ) → IsCodePoint c → is_surrogate c ≡ false → IsScalar c
is_scalar c p e = grind (arith, nat_tests)

-- a whole character has one to four bytes, and they are there
pub character_fits : (s : List ℕ) (i j : ℕ) → WholeCharacter s i j → (i + 1 ≤ j) × (j ≤ i + 4) × (j ≤ length s)
character_fits s i j w = grind (arith, nat_tests, common_steps, form_bounds, length-append, w.end, w.occurs.index, w.occurs.joined)

-- the character that begins bytes is their first item
first_of_char : (b c : ℕ) (bs rest : List ℕ) → IsScalar c → b ∷ bs ≡ encode c ++ rest → first_item false b bs ≡ Ok c
first_of_char b c bs rest s d = ap (λ s. s.0) (ap (first_split false) d ∙ split_of_form 0 c rest (scalar_point c s) (λ h l. omega (arith, h.0)))

-- a whole character at an index is one at the start of the bytes from there on
pub whole_at : (s : List ℕ) (i c : ℕ) (rest : List ℕ) → i ≤ length s → IsScalar c → drop i s ≡ encode c ++ rest → WholeCharacter s i (i + length (encode c))
whole_at s i c rest h k e = record {
  char = c;
  scalar = k;
  occurs = record { before = take i s; after = rest; joined = sym (take-append-drop i s) ∙ ap (λ x. take i s ++ x) e; index = length-take-le i s h };
  end = refl;
}

-- and the other way round
pub begins_at : (s : List ℕ) (i j : ℕ) → (w : WholeCharacter s i j) → drop i s ≡ encode w.char ++ w.occurs.after
begins_at s i j w = ap (drop i) w.occurs.joined ∙ drop_at w.occurs.before (encode w.char ++ w.occurs.after) i w.occurs.index

-- where no character begins, none starts, at an index and at the start
pub none_at : (s : List ℕ) (i : ℕ) → NoChar (drop i s) → (j : ℕ) → WholeCharacter s i j → ⊥
none_at s i h j w = h w.char w.occurs.after w.scalar (begins_at s i j w)

pub none_begins : (s : List ℕ) → ((j : ℕ) → WholeCharacter s 0 j → ⊥) → NoChar s
none_begins s h c rest k e = h _ (whole_at s 0 c rest (omega arith) k e)

-- a form at the start is that of the first character
pub char_begins : (s : List ℕ) (c : ℕ) (rest : List ℕ) → IsScalar c → s ≡ encode c ++ rest → IsFirstChar s c (length (encode c))
char_begins s c rest k e = (whole_at s 0 c rest (omega arith) k e, ap (take (length (encode c))) e ∙ take-append_seam (encode c) rest ∙ form_encode c)

-- a scalar that the reader finds at the start is that character
pub char_read : (b c : ℕ) (bs : List ℕ) → b < 256 → first_item false b bs ≡ Ok c → IsScalar c → IsFirstChar (b ∷ bs) c (length (encode_utf8 c))
char_read b c bs u e k = let f = split_code_point b c bs u e in subst (λ x. IsFirstChar (b ∷ bs) c (length x)) (form_encode c) (char_begins (b ∷ bs) c f.0 k f.2)

-- and so is an ASCII byte
pub ascii_first : (s : List ℕ) (b : ℕ) (bs : List ℕ) → s ≡ b ∷ bs → b < 0x80 → IsFirstChar s b 1
ascii_first s b bs d h =
    let f = form_ascii b h in
    subst (λ x. IsFirstChar s b (length x)) f (char_begins s b bs (low_scalar b (omega arith)) (d ∙ ap (λ x. x ++ bs) (sym f)))

-- none starts at the end or after it, nor where the reader finds no scalar
pub none_in_none : (bytes : List ℕ) → length bytes ≡ 0 → (j : ℕ) → WholeCharacter bytes 0 j → ⊥
none_in_none bytes h j w = let f = character_fits bytes 0 j w in omega arith

pub none_past : (s : List ℕ) (i : ℕ) → length s ≤ i → (j : ℕ) → WholeCharacter s i j → ⊥
none_past s i h j w = let f = character_fits s i j w in omega arith

pub none_at_other : (b c : ℕ) (bs : List ℕ) → first_item false b bs ≡ Ok c → (IsScalar c → ⊥) → (j : ℕ) → WholeCharacter (b ∷ bs) 0 j → ⊥
none_at_other b c bs e n = none_at (b ∷ bs) 0 (λ a rest k i. let o : Ok c ≡ Ok a = sym e ∙ first_of_char b a bs rest k i in let q : a ≡ c = cc in n (subst IsScalar q k))

pub none_at_fault : (b : ℕ) (f : EncodingError) (bs : List ℕ) → first_item false b bs ≡ Err f → (j : ℕ) → WholeCharacter (b ∷ bs) 0 j → ⊥
none_at_fault b f bs e = none_at (b ∷ bs) 0 (λ a rest k i. let o : Err f ≡ Ok a = sym e ∙ first_of_char b a bs rest k i in cc)

-- the same as code has it, of the bytes from an index on
pub character_in_rest : (s : List ℕ) (i : ℕ) (r : Option ℕ) → i < length s → IsCharacterAt (take (length s - i) (drop i s)) 0 r → IsCharacterAt s i r
character_in_rest s i r l h = by r (subst (λ x. IsCharacterAt x 0 r) rest h)
  where
    rest : take (length s - i) (drop i s) ≡ drop i s
    rest = grind (arith, common_steps)

    by : (r : Option ℕ) → IsCharacterAt (drop i s) 0 r → IsCharacterAt s i r
    by None h = none_at s i (none_begins (drop i s) h)
    by (Some n) h =
        let e = h.end in
        subst (λ m. WholeCharacter s i (i + m)) (omega arith) (whole_at s i h.char h.occurs.after (omega arith) h.scalar (begins_at (drop i s) 0 (0 + n) h))

-- the character that starts at an index has one end
pub same_end : (s : List ℕ) (i j k : ℕ) → WholeCharacter s i j → WholeCharacter s i k → j ≡ k
same_end s i j k v w =
    let f = form_same v.char w.char v.occurs.after w.occurs.after (sym (begins_at s i j v) ∙ begins_at s i k w) in
    v.end ∙ ap (λ c. i + length (encode c)) f.0 ∙ sym w.end

-- the bytes of a whole character at the start are a text
pub text_of_character : (s : List ℕ) (j : ℕ) → WholeCharacter s 0 j → IsUtf8 (take j s)
text_of_character s j w =
    let e : take j s ≡ encode w.char = ap (take j) (begins_at s 0 j w) ∙ take_at (encode w.char) w.occurs.after j (omega (arith, w.end)) in
    subst IsUtf8 (sym (e ∙ form_encode w.char)) (IsUtf8-encode w.char w.scalar)
