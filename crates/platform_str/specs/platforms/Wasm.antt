-- The strings of wasm: UTF-8. What its words mean, and its four records of laws, proved.
use Rattle.std.proofs.Common.{◌≡◌, ⊎_elim, get_or, ℕ, ◌<◌, List, [], ◌∷◌, ◌++◌, length, length-append, drop, refl, sym, ap, ◌∙◌, subst, take-append-drop, arith}
use Rattle.std.specs.{List.flat_map, Str.IsUtf8, Str.Lossy.utf8_lossy}
use Rattle.std.proofs.Math.Seq.{take-length}
use Rattle.std.proofs.lemmas.{List.take_at, List.drop_at, Bool.cases_lt, Str.IsUtf8-append, Str.IsUtf8-take, Str.IsUtf8-drop, Str.IsCharBoundary-from_drop}
use Rattle.wtf8_core.specs.{Covered.StartsWithNoCharacter, Covered.HasNoCharacter, Lossy.IsLossyText, PartUnits.unit_bytes, OccurrenceLaws.OccurrenceLaws, Utf8.IsUtf8Fault, declared.fault.EncodingError.EncodingError, declared.fault.EncodingError.TheVariants.Byte, declared.fault.EncodingError.TheVariants.CodePoint, declared.fault.EncodingError.TheVariants.End, declared.fault.EncodingError.TheVariants.Utf8}
use Rattle.wtf8_core.specs.Lossy.IsLossyText.{text as kept_text}
use Rattle.wtf8_core.proofs.lemmas.{characters.AtIndices.none_begins, forms.Cuts.utf8_cut, forms.Cuts.utf8_after, occurrence.Boundaries.edges_of_text, texts.AreWtf8.text_bytes, texts.AreWtf8.lossy_is_utf8, texts.AreWtf8.lossy_text, texts.AreWtf8.no_text_begins, texts.LossyTexts.no_text, texts.LossyTexts.one_utf8_fault, texts.LossyTexts.lossy_text_is}
use Rattle.platform_str.specs.{Laws.PlatformLaws, Laws.PartLaws, Laws.ReadingLaws, PlatformWords.itself, PlatformWords.IsThree, PlatformWords.wide_bytes}

-- the first fault of bytes that aren't UTF-8
abbrev pub IsTextFault : List ℕ → EncodingError → Type 0
IsTextFault b (Utf8 valid_up_to error_len) = IsUtf8Fault b valid_up_to error_len
IsTextFault b (Byte x) = ⊥
IsTextFault b (CodePoint c) = ⊥
IsTextFault b End = ⊥

-- a part has no unit
abbrev pub AreNone : List ℕ → Type 0
AreNone us = us ≡ []

-- the first fault is unique
one_fault : (b : List ℕ) (f g : EncodingError) → IsTextFault b f → IsTextFault b g → f ≡ g
one_fault b (Utf8 n l) (Utf8 m k) p q = let e = one_utf8_fault b n m l k p q in ap (λ x. Utf8 x l) e.0 ∙ ap (λ x. Utf8 m x) e.1
one_fault b (Utf8 n l) g p q = absurd q
one_fault b f g p q = absurd p

-- bytes with a fault aren't a text
faulty : (b : List ℕ) (f : EncodingError) → IsTextFault b f → IsUtf8 b → ⊥
faulty b (Utf8 n l) p u = no_text b n p.valid u
faulty b f p u = p

-- a text that isn't empty starts with a whole character
pub never_uncovered : (b : List ℕ) → IsUtf8 b → 0 < length b → StartsWithNoCharacter b → ⊥
never_uncovered b u s k =
    let e = take-length b in
    no_text_begins b (length b) (none_begins b k) (subst IsUtf8 (sym e) u) (subst (λ x. 0 < length x) (sym e) s)

pub wasm_laws : PlatformLaws IsTextFault IsUtf8 itself IsUtf8 IsUtf8 itself IsThree
wasm_laws = record {
  faulty = faulty;
  one_fault = one_fault;
  one_encoding = λ b c h k e. e;
  some_encoding = λ us h. (us, (h, refl));
  unit_list = λ b h. h;
  text = λ b h. h;
  text_io_safe = λ b h. h;
  io_safe_string = λ b h. h;
  after_text = utf8_after;
  three = λ b c n h k r. r;
  cut_prefix = λ b i h k. (utf8_cut b i h k).0;
  cut_suffix = λ b i h k. (utf8_cut b i h k).1;
  cut_lead = λ b i lt h n. IsUtf8-drop b i h (omega (arith, lt), λ l high. ⊎_elim (λ low. absurd (n (high, omega (arith, low)))) (λ ge. ge) (cases_lt (get_or b i 0) 0xC0));
  cut_units = λ b i h k. sym (take-append-drop i b);
  lossy_utf8 = λ b h. h;
  lossy_text = λ b h. refl;
  lossy_prefix = λ b n h v. sym (take-append-drop n b);
  lossy_step = λ b n h s k r. absurd (never_uncovered b h s k);
}

-- a text that contains no whole character is empty
none_in_text : (b : List ℕ) → IsUtf8 b → HasNoCharacter b → b ≡ []
none_in_text [] u k = refl
none_in_text (x ∷ b) u k = absurd (never_uncovered (x ∷ b) u (omega arith) (k 0))

pub wasm_parts : PartLaws IsUtf8 itself AreNone
wasm_parts = record { encoded = λ b h k. let e = none_in_text b h k in subst (λ x. x ≡ flat_map unit_bytes x) (sym e) refl; are_units = none_in_text; are_wide = λ b h k. wide_bytes b (text_bytes b h) }

-- the lossy text is the reading
pub wasm_readings : ReadingLaws IsUtf8 IsLossyText
wasm_readings = record {
  reading_formed = λ b c a r. lossy_is_utf8 b c r;
  reads_itself = λ b h. kept_text h;
  one_reading = λ b c d r s. sym (lossy_text_is b c r) ∙ lossy_text_is b d s;
  some_reading = λ b a. (utf8_lossy b, lossy_text b);
}

-- what follows a text at the start of a text is a text
text_suffix : (x y : List ℕ) → IsUtf8 x → IsUtf8 (x ++ y) → IsUtf8 y
text_suffix x y t u = subst IsUtf8 (drop_at x y (length x) refl) (utf8_after (x ++ y) (length x) u (subst IsUtf8 (sym (take_at x y (length x) refl)) t))

-- and so is what comes before a text at the end, and before any text that isn't empty
text_prefix : (x y : List ℕ) → IsUtf8 y → IsUtf8 (x ++ y) → IsUtf8 x
text_prefix x y t u =
    let d : IsUtf8 (drop (length x) (x ++ y)) = subst IsUtf8 (sym (drop_at x y (length x) refl)) t in
    subst IsUtf8 (take_at x y (length x) refl) (IsUtf8-take (x ++ y) (length x) u (IsCharBoundary-from_drop (x ++ y) (length x) (omega (arith, length-append x y)) d))

text_before : (p x y : List ℕ) → IsUtf8 p → 0 < length p → IsUtf8 (x ++ (p ++ y)) → IsUtf8 x
text_before p x y t h u =
    let b = (edges_of_text p (x ++ (p ++ y)) (length x) t h (record { before = x; after = y; joined = refl; index = refl })).0 in
    subst IsUtf8 (take_at x (p ++ y) (length x) refl) (utf8_cut (x ++ (p ++ y)) (length x) u b).0

pub wasm_occurrence : OccurrenceLaws IsUtf8 itself
wasm_occurrence = record {
  texts = λ p t. t;
  once = λ v w a b e. e;
  prefixes = λ x y a b. (text_suffix x y a b, refl);
  ends = text_prefix;
  before_text = text_before;
  units_occur = λ p s us vs t h w e. record { prefix = us; suffix = vs; joined = e; formed = text_before p us vs t h (subst IsUtf8 e w); units_are = refl };
  some_join = λ x y a b. (x ++ y, (IsUtf8-append x y a b, refl));
  some_rest = λ x s us a b e. (us, (text_suffix x us a (subst IsUtf8 e b), refl));
}
