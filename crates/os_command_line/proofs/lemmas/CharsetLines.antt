-- Lines of words in each charset that keeps the bytes on which quotes depend, and charsets of one or two bytes.
use Rattle.std.proofs.Common.{◌≡◌, ℕ, ◌≤◌, Bool, true, false, ◌&&◌, List, [], ◌∷◌, ◌++◌, map, refl, sym, ap, ◌∙◌, subst, arith, inl, inr}
use Rattle.std.specs.List.{AllByRecursion}
use Rattle.std.proofs.lemmas.Bool.{cases_Bool, and_parts}
use Rattle.std.proofs.lemmas.Bool.Decides.{nat_tests}
use Rattle.os_command_line.specs.declared.shell.language.Language.{Language}
use Rattle.os_command_line.specs.Charset.{is_kept, IsCharacter, AreCharacters, IsCharset, double_byte}
use Rattle.os_command_line.specs.Charset.IsCharacter.{byte, longer}
use Rattle.os_command_line.specs.ReservedWords.{is_reserved, first_word, line_words}
use Rattle.os_command_line.specs.ShellCharacters.{EndsBefore, AreWords, IsCharacterText, IsCharacterLine}
use Rattle.os_command_line.specs.ShellCharacters.IsGap.{no_gap, blank}
use Rattle.os_command_line.specs.ShellWriting.{AreBytes, after_first, join_words, quoted_word, single_quoted}
use Rattle.os_command_line.proofs.lemmas.CharsetQuotes.{first_is, none_joined, single_is, word_is}

tail_ends : (texts : List (List ℕ)) → EndsBefore (after_first texts)
tail_ends [] = tt
tail_ends (text ∷ texts) = refl

-- these are the texts of those words
AreTextsOf : Language → List (List ℕ) → List (List ℕ) → Type 0
AreTextsOf l [] [] = Unit {0}
AreTextsOf l [] (word ∷ words) = ⊥
AreTextsOf l (text ∷ texts) [] = ⊥
AreTextsOf l (text ∷ texts) (word ∷ words) = IsCharacterText l text word × AreTextsOf l texts words

after_read : (l : Language) (texts words : List (List ℕ)) (cs : List (List ℕ)) → AreTextsOf l texts words → AreCharacters (after_first texts) cs → AreWords l cs words
unfolding AreTextsOf
after_read l [] [] cs h r = subst (λ z. AreWords l z []) (sym (none_joined cs r.are_characters r.is_joined)) no_gap
after_read l [] (word ∷ words) cs h r = absurd h
after_read l (text ∷ texts) [] cs h r = absurd h
after_read l (text ∷ texts) (word ∷ words) cs h r =
    let f = first_is 0x20 (text ++ after_first texts) cs (omega arith) r in
    let i = h.0 (after_first texts) f.rest (tail_ends texts) f.rest_are in
    (i.rest, record { gap = (0x20 ∷ []) ∷ []; text = f.rest; parts = f.is; is_gap = blank (0x20 ∷ []) [] refl no_gap; begins = i.begins; reads = i.reads }, after_read l texts words i.rest h.1 i.rest_are)

line_read : (l : Language) (texts words : List (List ℕ)) → AreTextsOf l texts words → IsCharacterLine l (join_words texts) words
unfolding AreTextsOf
line_read l [] [] h cs r = subst (λ z. AreWords l z []) (sym (none_joined cs r.are_characters r.is_joined)) no_gap
line_read l [] (word ∷ words) h cs r = absurd h
line_read l (text ∷ texts) [] h cs r = absurd h
line_read l (text ∷ texts) (word ∷ words) h cs r =
    let i = h.0 (after_first texts) cs (tail_ends texts) r in
    (i.rest, record { gap = []; text = cs; parts = refl; is_gap = no_gap; begins = i.begins; reads = i.reads }, after_read l texts words i.rest h.1 i.rest_are)

-- the word of a name that is first on a line
pub first_is_text : (l : Language) (name : List ℕ) → AreBytes name → IsCharacterText l (first_word name) name
first_is_text l name w = elim (cases_Bool (is_reserved name)) [
  | inl e ↦ subst (λ z. IsCharacterText l z name) (sym (quoted e)) (single_is l name)
  | inr e ↦ subst (λ z. IsCharacterText l z name) (sym (other e)) (word_is l name w)
]
  where
    quoted : is_reserved name ≡ true → first_word name ≡ single_quoted name
    quoted e = rw e refl

    other : is_reserved name ≡ false → first_word name ≡ quoted_word name
    other e = rw e refl

are_texts : (l : Language) (names : List (List ℕ)) → AllByRecursion AreBytes names → AreTextsOf l (map quoted_word names) names
unfolding AreTextsOf
are_texts l [] w = tt
are_texts l (name ∷ names) w = (word_is l name w.0, are_texts l names w.1)

pub names_read : (l : Language) (names : List (List ℕ)) → AllByRecursion AreBytes names → IsCharacterLine l (join_words (line_words names)) names
unfolding AreTextsOf
names_read l [] w = line_read l [] [] tt
names_read l (name ∷ names) w = line_read l (first_word name ∷ map quoted_word names) (name ∷ names) (first_is_text l name w.0, are_texts l names w.1)

pub names_line : (l : Language) (names : List (List ℕ)) (line : List ℕ) → AllByRecursion AreBytes names → line ≡ join_words (line_words names) → IsCharacterLine l line names
names_line l names line w e = subst (λ z. IsCharacterLine l z names) (sym e) (names_read l names w)

-- ---- charsets of one or two bytes

module _ (leads trails : ℕ → Bool) (high : (b : ℕ) → leads b ≡ true → 0x80 ≤ b) (past : (b : ℕ) → trails b ≡ true → 0x28 ≤ b) where
  not_kept : (b : ℕ) → 0x28 ≤ b → is_kept b ≡ false
  not_kept b h = grind (arith, nat_tests)

  pub double_is_charset : IsCharset (double_byte leads trails)
  double_is_charset [] = record { is_joined = refl; are_characters = tt }
  double_is_charset (b ∷ []) = record { is_joined = refl; are_characters = (byte b, tt) }
  double_is_charset (b ∷ c ∷ bs) = elim (cases_Bool (leads b && trails c)) [
    | inl e ↦
        let p = and_parts (leads b) (trails c) e in
        let r = double_is_charset bs in
        let i : IsCharacter (b ∷ c ∷ []) = longer b (c ∷ []) (high b p.0) (not_kept c (past c p.1), (λ _. high b p.0), tt) in
        subst (AreCharacters (b ∷ c ∷ bs)) (sym (two e)) (record { is_joined = ap (λ z. b ∷ c ∷ z) r.is_joined; are_characters = (i, r.are_characters) })
    | inr e ↦
        let r = double_is_charset (c ∷ bs) in
        subst (AreCharacters (b ∷ c ∷ bs)) (sym (one e)) (record { is_joined = ap (λ z. b ∷ z) r.is_joined; are_characters = (byte b, r.are_characters) })
  ]
    where
      two : leads b && trails c ≡ true → double_byte leads trails (b ∷ c ∷ bs) ≡ (b ∷ c ∷ []) ∷ double_byte leads trails bs
      two e = rw e refl

      one : leads b && trails c ≡ false → double_byte leads trails (b ∷ c ∷ bs) ≡ (b ∷ []) ∷ double_byte leads trails (c ∷ bs)
      one e = rw e refl
