-- The strings of Unix: any bytes. What its words mean, and its four records of laws, proved.
use Rattle.std.proofs.Common.{◌≡◌, ℕ, ◌<◌, ◌≤◌, List, ◌++◌, length, refl, sym, ◌∙◌, subst, take-append-drop}
use Rattle.std.specs.{List.All, Str.Lossy.utf8_lossy}
use Rattle.std.proofs.Math.Bridge.{le_prop}
use Rattle.std.proofs.lemmas.{List.take_at, List.drop_at, Str.utf8_lossy-IsUtf8, List.Elements.All-append, List.Elements.All-take, List.Elements.All-drop, List.Elements.All-from_recursion, List.Elements.recursion_from_All}
use Rattle.wtf8_core.specs.{Byte.IsByte, OccurrenceLaws.OccurrenceLaws, Utf8.IsIllFormedPart, declared.fault.EncodingError.EncodingError}
use Rattle.wtf8_core.proofs.lemmas.{characters.AtIndices.none_begins, chunks.PartUnits.uncovered_bytes, texts.AreWtf8.text_bytes, texts.AreWtf8.lossy_prefix, texts.AreWtf8.lossy_text, texts.AreWtf8.lossy_is_utf8, texts.AreWtf8.part_first}
use Rattle.platform_str.specs.{Laws.PlatformLaws, Laws.PartLaws, Laws.ReadingLaws, PlatformWords.itself, PlatformWords.wide_bytes}

-- no bytes are rejected
abbrev pub IsNoFault : List ℕ → EncodingError → Type 0
IsNoFault b fault = ⊥

-- the units of a part are no ASCII
abbrev pub AreAboveAscii : List ℕ → Type 0
AreAboveAscii us = All (λ u. 0x80 ≤ u) us

-- all bytes are read as they are
abbrev pub IsSame : List ℕ → List ℕ → Type 0
IsSame b c = c ≡ b

-- any two proofs that numbers are bytes are equal
pub bytes_prop : (b : List ℕ) → IsProp (All IsByte b)
bytes_prop b = hlevel le_prop

pub unix_laws : PlatformLaws IsNoFault (All IsByte) itself (All IsByte) (All IsByte) utf8_lossy IsIllFormedPart
unix_laws = record {
  faulty = λ b f k h. k;
  one_fault = λ b f g k l. absurd k;
  one_encoding = λ b c h k e. e;
  some_encoding = λ us h. (us, (h, refl));
  unit_list = λ b h. h;
  text = text_bytes;
  text_io_safe = text_bytes;
  io_safe_string = λ b h. h;
  after_text = λ b n h u. All-drop (λ x. x < 256) n b h;
  three = λ b c n h k r. absurd (k h);
  cut_prefix = λ b i h k. All-take (λ x. x < 256) i b h;
  cut_suffix = λ b i h k. All-drop (λ x. x < 256) i b h;
  cut_lead = λ b i lt h n. All-drop (λ x. x < 256) i b h;
  cut_units = λ b i h k. sym (take-append-drop i b);
  lossy_utf8 = λ b h. lossy_is_utf8 b _ (lossy_text b);
  lossy_text = utf8_lossy-IsUtf8;
  lossy_prefix = λ b n h v. lossy_prefix b n v;
  lossy_step = λ b n h s k r.
      let p = part_first b n s (none_begins b k) r in
      record { some = p.some; within = p.within; after = All-drop (λ x. x < 256) n b h; lossy_is = p.lossy };
}

pub unix_parts : PartLaws (All IsByte) itself AreAboveAscii
unix_parts = record {
  encoded = λ b h k. (uncovered_bytes b (recursion_from_All IsByte b h) k).0;
  are_units = λ b h k. All-from_recursion (λ u. 0x80 ≤ u) b (uncovered_bytes b (recursion_from_All IsByte b h) k).1;
  are_wide = λ b h k. wide_bytes b h;
}

pub unix_readings : ReadingLaws (All IsByte) IsSame
unix_readings = record {
  reading_formed = λ b c a e. subst (All IsByte) (sym e) a;
  reads_itself = λ b h. refl;
  one_reading = λ b c d e f. e ∙ sym f;
  some_reading = λ b a. (b, refl);
}

-- the parts of a list of bytes are lists of bytes
bytes_prefix : (x y : List ℕ) → All IsByte (x ++ y) → All IsByte x
bytes_prefix x y h = subst (All IsByte) (take_at x y (length x) refl) (All-take (λ b. b < 256) (length x) (x ++ y) h)

bytes_suffix : (x y : List ℕ) → All IsByte (x ++ y) → All IsByte y
bytes_suffix x y h = subst (All IsByte) (drop_at x y (length x) refl) (All-drop (λ b. b < 256) (length x) (x ++ y) h)

pub unix_occurrence : OccurrenceLaws (All IsByte) itself
unix_occurrence = record {
  texts = text_bytes;
  once = λ v w a b e. e;
  prefixes = λ x y a b. (bytes_suffix x y b, refl);
  ends = λ x y a b. bytes_prefix x y b;
  before_text = λ p x y t h w. bytes_prefix x (p ++ y) w;
  units_occur = λ p s us vs t h w e. record { prefix = us; suffix = vs; joined = e; formed = bytes_prefix us _ (subst (All IsByte) e w); units_are = refl };
  some_join = λ x y a b. (x ++ y, (All-append (λ b. b < 256) x y a b, refl));
  some_rest = λ x s us a b e. (us, (bytes_suffix x us (subst (All IsByte) e b), refl));
}
