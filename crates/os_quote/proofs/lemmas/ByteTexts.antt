-- The words of bytes have their texts.
use Rattle.os_quote.proofs.Common.{◌≡◌, ℕ, ◌*◌, ◌/◌, ◌<◌, ◌≤◌, Bool, true, ◌&&◌, ltb, ◌+◌, List, [], ◌∷◌, ◌++◌, length, length-take-le, take, append_assoc, refl, sym, ap, ◌∙◌, subst, arith, and_parts, all_below, each_below, AllByRecursion, IsUtf8, IsUtf8-from_ascii, item_text, shown_by}
use Rattle.std.proofs.{lemmas.Bool.ltb-true, lemmas.Slice.take-put_mid, lemmas.Slice.Eq.bytes_eq-Decides, lemmas.List.take-take, Math.Seq.take-append-add}
use borrow.Rule.Slice.PartMut.{put_mid}
use Rattle.std.specs.{Str.bytes_eq, Prelude.slice_index_or, Int.w64, Int.to_le_bytes}
use mir.Val.{bool_byte}
use Rattle.os_quote.specs.{Start.byte_item, declared.write_bytes.TheConstants.WORDS, declared.form.Form.Form, declared.form.Form.TheVariants.Text, declared.form.Form.TheVariants.Line}
use Rattle.os_quote.proofs.lemmas.Readings.{ascii_all}

-- how far past a byte its word is: those of ASCII on a line come last
abbrev pub past : Form → ℕ → ℕ
past Text b = 0
past Line b = bool_byte (ltb b 0x80) * 0x100

abbrev pub word_at : ℕ → ℕ
word_at i = slice_index_or WORDS i 0

abbrev pub text_of : Form → ℕ → List ℕ
text_of form b = item_text (byte_item (shown_by form) b)

abbrev are_low : List ℕ → Bool
are_low [] = true
are_low (x ∷ xs) = ltb x 128 && are_low xs

all_low : (xs : List ℕ) → are_low xs ≡ true → AllByRecursion (λ b. b < 128) xs
all_low [] e = tt
all_low (x ∷ xs) e = let both = and_parts (ltb x 128) (are_low xs) e in (ltb-true x 128 both.0, all_low xs both.1)

-- whether the word of a byte has its text, which is ASCII
abbrev has_text : Form → ℕ → Bool
has_text form b =
    let word = word_at (b + past form b) in
    let len = word / 0x100_0000_0000_0000 in
    bytes_eq (take len (to_le_bytes w64 word)) (text_of form b) && (ltb len 9 && are_low (text_of form b))

each_has_text : (form : Form) → all_below (has_text form) 256 ≡ true
unfolding lib.Utf8.encode
each_has_text Text = refl
each_has_text Line = refl

-- the word has a text
abbrev pub HasText : List ℕ → ℕ → Type 0
HasText text word = (word / 0x100_0000_0000_0000 ≤ 8) × (take (word / 0x100_0000_0000_0000) (to_le_bytes w64 word) ≡ text) × IsUtf8 text

pub word_has_text : (form : Form) (b i : ℕ) → b < 256 → i ≡ b + past form b → HasText (text_of form b) (word_at i)
word_has_text form b i byte index =
    let word = word_at (b + past form b) in
    let len = word / 0x100_0000_0000_0000 in
    let parts = and_parts (bytes_eq (take len (to_le_bytes w64 word)) (text_of form b)) (ltb len 9 && are_low (text_of form b)) (each_below (has_text form) 256 b (each_has_text form) byte) in
    let rest = and_parts (ltb len 9) (are_low (text_of form b)) parts.1 in
    let few = ltb-true len 9 rest.0 in
    subst (λ n. HasText (text_of form b) (word_at n)) (sym index) (omega (arith, few), (bytes_eq-Decides _ _).0 parts.0, IsUtf8-from_ascii _ (ascii_all _ (all_low _ rest.1)))

-- a word is stored at an index, and what its text doesn't have is written over next
pub placed : (a ys text : List ℕ) (i k n : ℕ) → i + k ≤ length a → length ys ≡ k → n ≤ k → take n ys ≡ text → take (i + n) (put_mid i k a ys) ≡ take i a ++ text
placed a ys text i k n fits long few is =
    let front : length (take i a) ≡ i = length-take-le i a (omega arith) in
    sym (take-take (i + n) (i + k) (put_mid i k a ys) (omega arith))
    ∙ ap (take (i + n)) (take-put_mid i k a ys (i + k) (omega arith) (omega arith))
    ∙ ap (λ m. take (m + n) (take i a ++ ys)) (sym front)
    ∙ take-append-add (take i a) ys n ∙ ap (λ t. take i a ++ t) is

-- a text that is written after others
pub one_more : {whole rest written : List ℕ} (before text after : List ℕ) → whole ≡ before ++ rest → rest ≡ text ++ after → written ≡ before ++ text → whole ≡ written ++ after
one_more before text after is first more = is ∙ ap (λ r. before ++ r) first ∙ sym (append_assoc before text after) ∙ ap (λ w. w ++ after) (sym more)
