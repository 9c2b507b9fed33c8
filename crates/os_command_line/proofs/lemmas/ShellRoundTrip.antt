-- What is written is read back.
use Rattle.std.proofs.Common.{◌≡◌, ◌≢◌, ℕ, ◌<◌, Bool, true, false, not, ◌||◌, ◌&&◌, eqb, List, [], ◌∷◌, ◌++◌, map, length, refl, sym, ap, ◌∙◌, subst, arith, append_assoc, append-nil, Ok, inl, inr}
use Rattle.std.specs.List.{All, AllByRecursion}
use Rattle.std.proofs.lemmas.Bool.Decides.{nat_tests}
use Rattle.std.proofs.lemmas.List.Elements.{recursion_from_All}
use Rattle.wtf8_core.specs.Byte.{IsByte}
use Rattle.std.proofs.lemmas.Bool.{cases_Bool, true≢false, and_parts, not-true, eqb-true}
use Rattle.wtf8_core.proofs.lemmas.vectors.ComputedTests.{all_below, each_below}
use Rattle.os_command_line.specs.declared.shell.language.Language.{Language}
use Rattle.os_command_line.specs.Shell.{single_quote, backslash, dollar, newline, is_mark, is_blank, is_operator, is_pattern, is_history, is_special, begins_quote, opens_dollar, IsBare, HasNoQuote, Outcome, Ends, Reads, Begins, AreItems, IsRead, AreWords, IsTextOf}
use Rattle.os_command_line.specs.Shell.Outcome.{Word, Fault}
use Rattle.os_command_line.specs.Shell.IsGap.{no_gap, blank}
use Rattle.os_command_line.specs.Shell.Reads.{ends, bare, escaped, single}
use Rattle.os_command_line.specs.ReservedWords.{is_reserved, first_word, line_words}
use Rattle.os_command_line.specs.ShellWriting.{AreBytes, is_plain, are_plain, is_plain_name, caret, single_text, single_quoted, quoted_word, after_first, join_words}
use Rattle.os_command_line.proofs.lemmas.Lists.{no_cons, one_more}
use Rattle.os_command_line.proofs.lemmas.ShellOneReading.{one_reading, and_none, or_false}
use Rattle.os_command_line.proofs.lemmas.ShellEachLine.{same}

-- a byte that some shell gives a meaning of its own somewhere
abbrev is_other : ℕ → Bool
is_other b = is_mark b || (is_blank b || (is_special true b || eqb b dollar))

abbrev is_safe : ℕ → Bool
is_safe b = not (is_plain b && is_other b)

all_safe : all_below is_safe 0x100 ≡ true
all_safe = refl

-- no plain byte is one
pub plain_is : (b : ℕ) → b < 0x100 → is_plain b ≡ true → (is_mark b ≡ false) × (is_blank b ≡ false) × (is_special true b ≡ false) × (eqb b dollar ≡ false)
plain_is b lt p =
    let safe : is_plain b && is_other b ≡ false = not-true _ (each_below is_safe 0x100 b all_safe lt) in
    let other : is_other b ≡ false = sym (rw p refl) ∙ safe in
    let x = or_false (is_mark b) (is_blank b || (is_special true b || eqb b dollar)) other in
    let y = or_false (is_blank b) (is_special true b || eqb b dollar) x.1 in
    let z = or_false (is_special true b) (eqb b dollar) y.1 in
    (x.0, y.0, z.0, z.1)

pub not_special : (first : Bool) (b : ℕ) → is_special true b ≡ false → is_special first b ≡ false
not_special true b h = h
not_special false b h =
    let x = or_false (is_operator b) _ h in
    let y = or_false (is_pattern b) _ x.1 in
    let z = or_false (is_history b) _ y.1 in
    let w = or_false (eqb b 0x0D) _ z.1 in
    rw (x.0, y.0, z.0, w.0) refl

pub plain_low : (b : ℕ) → is_plain b ≡ true → b < 0x80
plain_low b h = grind (arith, nat_tests)

pub no_dollar : (l : Language) (b : ℕ) (text : List ℕ) → eqb b dollar ≡ false → opens_dollar l b text ≡ false
no_dollar l b text e = and_none l.dollar_quotes (eqb b dollar && begins_quote text) (rw e refl)

is_bare : (l : Language) (first : Bool) (b : ℕ) (text : List ℕ) → b < 0x100 → is_plain b ≡ true → IsBare l first b text
is_bare l first b text lt p =
    let h = plain_is b lt p in
    record { no_mark = h.0; no_blank = h.1; no_dollar = no_dollar l b text h.3; no_special = and_none l.refuses_specials (is_special first b) (not_special first b h.2) }

plain_text : (l : Language) (first : Bool) (word after : List ℕ) → AreBytes word → are_plain word ≡ true → Ends after → Reads l first (word ++ after) (Word word after)
plain_text l first [] after w p e = ends first after e
plain_text l first (b ∷ word) after w p e =
    let h = and_parts (is_plain b) (are_plain word) p in
    bare first b (word ++ after) (Word word after) (is_bare l first b (word ++ after) w.0 h.0) (plain_text l false word after w.1 h.1 e)

-- a word begins with a byte that is no blank and no backslash
pub begins_with : (b : ℕ) (text : List ℕ) → is_blank b ≡ false → b ≢ backslash → Begins (b ∷ text)
begins_with b text n s = record {
  some = no_cons;
  no_blank = λ c rest e. let f : b ≡ c = cc in subst (λ z. is_blank z ≡ false) f n;
  no_join = λ rest e. let f : b ≡ backslash = cc in s f;
}

plain_begins : (b : ℕ) (text : List ℕ) → b < 0x100 → is_plain b ≡ true → Begins (b ∷ text)
plain_begins b text lt p = let h = plain_is b lt p in begins_with b text h.1 (λ e. true≢false (sym (subst (λ z. is_mark z ≡ true) (sym e) refl) ∙ h.0))

-- in single quotes, after some bytes
single_read : (l : Language) (first line : Bool) (done name after : List ℕ) → HasNoQuote done → Ends after → Reads l first (single_quote ∷ (done ++ (single_text line name ++ single_quote ∷ after))) (Word (done ++ name) after)
single_read l first line done [] after h e = single first done after (Word [] after) h (ends false after e)
single_read l first line done (b ∷ name) after h e = elim (cases_Bool (eqb b single_quote)) [
  | inl q ↦ let rest = single_text false name ++ single_quote ∷ after in
      let again = single_read l false false [] name after tt e in
      let f = eqb-true b single_quote q in
      subst (λ x. Reads l first (single_quote ∷ (done ++ (single_text line (x ∷ name) ++ single_quote ∷ after))) (Word (done ++ x ∷ name) after)) (sym f)
      (single first done (backslash ∷ single_quote ∷ single_quote ∷ rest) (Word (single_quote ∷ name) after) h (escaped false single_quote (single_quote ∷ rest) (Word name after) refl again))
  | inr q ↦ elim (cases_Bool (line && eqb b caret)) [
    | inl f ↦
        let again = single_read l false (eqb b newline) (b ∷ []) name after (q, tt) e in
        same (ap (λ z. single_quote ∷ (done ++ z)) (sym (apart q f))) refl (single first done (single_quote ∷ b ∷ rest) (Word (b ∷ name) after) h again)
    | inr f ↦
        let more = single_read l first (eqb b newline) (done ++ b ∷ []) name after (one_more (λ x. eqb x single_quote ≡ false) done b h q) e in
        same (ap (λ z. single_quote ∷ z) (append_assoc done (b ∷ []) rest ∙ ap (λ z. done ++ z) (sym (whole q f)))) (ap (λ z. Word z after) (append_assoc done (b ∷ []) name)) more
  ]
]
  where
    rest : List ℕ
    rest = single_text (eqb b newline) name ++ single_quote ∷ after

    whole : eqb b single_quote ≡ false → line && eqb b caret ≡ false → single_text line (b ∷ name) ++ single_quote ∷ after ≡ b ∷ rest
    whole q f = rw (q, f) refl

    -- the quotes end and begin again before it
    apart : eqb b single_quote ≡ false → line && eqb b caret ≡ true → single_text line (b ∷ name) ++ single_quote ∷ after ≡ single_quote ∷ single_quote ∷ b ∷ rest
    apart q f = rw (q, f) refl

pub single_is : (l : Language) (name : List ℕ) → IsTextOf l (single_quoted name) name
single_is l name after e = (
  begins_with single_quote ((single_text false name ++ single_quote ∷ []) ++ after) refl (λ f. omega (arith, f)),
  same (ap (λ z. single_quote ∷ z) (sym (append_assoc (single_text false name) (single_quote ∷ []) after))) refl (single_read l true false [] name after tt e),
)

plain_is_text : (l : Language) (name : List ℕ) → AreBytes name → is_plain_name name ≡ true → IsTextOf l name name
plain_is_text l [] w p after e = absurd (true≢false (sym p))
plain_is_text l (b ∷ name) w p after e = (plain_begins b (name ++ after) w.0 (and_parts (is_plain b) (are_plain name) p).0, plain_text l true (b ∷ name) after w p e)

-- a name's word is read as the name, whatever ends it
pub word_is_text : (l : Language) (name : List ℕ) → AreBytes name → IsTextOf l (quoted_word name) name
word_is_text l name w = elim (cases_Bool (is_plain_name name)) [
  | inl p ↦ subst (λ z. IsTextOf l z name) (sym (plain_word p)) (plain_is_text l name w p)
  | inr p ↦ subst (λ z. IsTextOf l z name) (sym (other_word p)) (single_is l name)
]
  where
    plain_word : is_plain_name name ≡ true → quoted_word name ≡ name
    plain_word p = rw p refl

    other_word : is_plain_name name ≡ false → quoted_word name ≡ single_quoted name
    other_word p = rw p refl

-- a text is that of one word
pub one_word : (l : Language) (text a b : List ℕ) → IsTextOf l text a → IsTextOf l text b → a ≡ b
one_word l text a b p q = ap word_of (one_reading l (text ++ []) (Word a []) (Word b []) (p [] tt).1 (q [] tt).1)
  where
    word_of : Outcome → List ℕ
    word_of (Word word after) = word
    word_of (Fault kind left) = []

-- ---- words on one line

-- these are the texts of those words
abbrev pub AreTextsOf : Language → List (List ℕ) → List (List ℕ) → Type 0
AreTextsOf l [] [] = Unit {0}
AreTextsOf l [] (word ∷ words) = ⊥
AreTextsOf l (text ∷ texts) [] = ⊥
AreTextsOf l (text ∷ texts) (word ∷ words) = IsTextOf l text word × AreTextsOf l texts words

-- what comes after a word's text: the end, or a space
tail_ends : (texts : List (List ℕ)) → Ends (after_first texts)
tail_ends [] = tt
tail_ends (text ∷ texts) = refl

-- after the first word, or from the start
pub words_read : (l : Language) (len : ℕ) (texts words : List (List ℕ)) → AreTextsOf l texts words → AreItems l len (after_first texts) (map Ok words)
words_read l len [] [] h = no_gap
words_read l len [] (word ∷ words) h = absurd h
words_read l len (text ∷ texts) [] h = absurd h
words_read l len (text ∷ texts) (word ∷ words) h =
    let rest = after_first texts in
    let is = h.0 rest (tail_ends texts) in
    (rest, record { gap = 0x20 ∷ []; text = text ++ rest; parts = refl; is_gap = blank 0x20 [] refl no_gap; begins = is.0; reads = is.1 }, words_read l len texts words h.1)

pub joined_read : (l : Language) (texts words : List (List ℕ)) → AreTextsOf l texts words → AreWords l (join_words texts) words
joined_read l [] [] h = no_gap
joined_read l [] (word ∷ words) h = absurd h
joined_read l (text ∷ texts) [] h = absurd h
joined_read l (text ∷ texts) (word ∷ words) h =
    let rest = after_first texts in
    let is = h.0 rest (tail_ends texts) in
    (rest, record { gap = []; text = text ++ rest; parts = refl; is_gap = no_gap; begins = is.0; reads = is.1 }, words_read l (length (text ++ rest)) texts words h.1)

pub quoted_texts : (l : Language) (names : List (List ℕ)) → AllByRecursion AreBytes names → AreTextsOf l (map quoted_word names) names
quoted_texts l [] w = tt
quoted_texts l (name ∷ names) w = (word_is_text l name w.0, quoted_texts l names w.1)

-- a text that is read as a word is a line of it
pub alone_read : (l : Language) (text word : List ℕ) → IsTextOf l text word → IsRead l text (Ok word ∷ [])
alone_read l text word h =
    let one = h [] tt in (
      [],
      record { gap = []; text = text; parts = refl; is_gap = no_gap; begins = subst Begins (append-nil text) one.0; reads = subst (λ z. Reads l true z (Word word [])) (append-nil text) one.1 },
      no_gap,
    )

-- the word of a name that is first on a line
pub first_is_text : (l : Language) (name : List ℕ) → AreBytes name → IsTextOf l (first_word name) name
first_is_text l name w = elim (cases_Bool (is_reserved name)) [
  | inl e ↦ subst (λ z. IsTextOf l z name) (sym (in_quotes e)) (single_is l name)
  | inr e ↦ subst (λ z. IsTextOf l z name) (sym (other e)) (word_is_text l name w)
]
  where
    in_quotes : is_reserved name ≡ true → first_word name ≡ single_quoted name
    in_quotes e = rw e refl

    other : is_reserved name ≡ false → first_word name ≡ quoted_word name
    other e = rw e refl

line_texts : (l : Language) (names : List (List ℕ)) → AllByRecursion AreBytes names → AreTextsOf l (line_words names) names
line_texts l [] w = tt
line_texts l (name ∷ names) w = (first_is_text l name w.0, quoted_texts l names w.1)

pub line_read : (l : Language) (names : List (List ℕ)) → AllByRecursion AreBytes names → AreWords l (join_words (line_words names)) names
line_read l names w = joined_read l (line_words names) names (line_texts l names w)

pub joined_names : (l : Language) (names : List (List ℕ)) (line : List ℕ) → AllByRecursion AreBytes names → line ≡ join_words (line_words names) → AreWords l line names
joined_names l names line w e = subst (λ z. AreWords l z names) (sym e) (line_read l names w)

-- strings of bytes are names
pub are_names : {X : Type 0} (text : X → List ℕ) → ((x : X) → All IsByte (text x)) → (xs : List X) → AllByRecursion AreBytes (map text xs)
are_names text of [] = tt
are_names text of (x ∷ xs) = (recursion_from_All IsByte (text x) (of x), are_names text of xs)
