-- What is written in dollar-single-quotes is read back, in each charset that keeps the bytes on which quotes depend.
use Rattle.std.proofs.Common.{◌≡◌, ℕ, ◌+◌, ◌/◌, ◌%◌, ◌<◌, Bool, true, false, eqb, ltb, List, [], ◌∷◌, ◌++◌, refl, sym, ap, ◌∙◌, subst, arith, append_assoc, if◌then◌else◌, inl, inr, Option, None, Some}
use Rattle.std.specs.List.{AllByRecursion}
use Rattle.std.proofs.lemmas.Bool.{cases_Bool, eqb-true}
use Rattle.std.proofs.lemmas.Bool.Decides.{nat_tests}
use Rattle.os_command_line.specs.declared.shell.language.Language.{Language}
use Rattle.os_command_line.specs.Charset.{joined, AreCharacters, is_byte}
use Rattle.os_command_line.specs.Shell.{single_quote, backslash, dollar, escape_meaning}
use Rattle.os_command_line.specs.ShellCharacters.{EndsBefore, Reads, IsReadAs, IsCharacterText, Dollared}
use Rattle.os_command_line.specs.ShellCharacters.Dollared.{nothing, itself, escape_of}
use Rattle.os_command_line.specs.ShellCharacters.IsOpening.{quote}
use Rattle.os_command_line.specs.ShellCharacters.Reads.{ends, dollared}
use Rattle.os_command_line.specs.ShellWriting.{letter_for, octal_text}
use Rattle.os_command_line.proofs.lemmas.CharsetCuts.{Parts, split, last, last_joined}
use Rattle.os_command_line.proofs.lemmas.CharsetQuotes.{HasNo, IsRestAs, no_character, first_is, ends_are, same, at_quote, begins_with}
use Rattle.os_command_line.proofs.lemmas.Lists.{all_joined}
use Rattle.os_command_line.proofs.lemmas.ShellOctal.{IsNameByte, octal_means}

-- ---- a name in pieces

-- bytes that are written as they are, or a byte that is written as an escape, by a letter or by digits
pub data Piece : Type 0 where
  Shown : List ℕ → Piece
  Hidden : ℕ → Option ℕ → Piece

-- a letter for a byte means it
abbrev pub IsLetterFor : ℕ → Option ℕ → Type 0
IsLetterFor b None = Unit {0}
IsLetterFor b (Some k) = (k < 0x80) × (escape_meaning (k ∷ []) ≡ Some b)

-- bytes that are as they are
abbrev pub AreShown : List ℕ → Type 0
AreShown done = HasNo single_quote done × HasNo backslash done

abbrev pub IsPiece : Piece → Type 0
IsPiece (Shown bytes) = AreShown bytes
IsPiece (Hidden b o) = IsNameByte b × IsLetterFor b o

abbrev pub meaning : List Piece → List ℕ
meaning [] = []
meaning (Shown bytes ∷ pieces) = bytes ++ meaning pieces
meaning (Hidden b o ∷ pieces) = b ∷ meaning pieces

-- what comes after the backslash of an escape
abbrev pub escape_tail : ℕ → Option ℕ → List ℕ
escape_tail b (Some k) = k ∷ []
escape_tail b None = (0x30 + b / 64 % 8) ∷ (0x30 + b / 8 % 8) ∷ (0x30 + b % 8) ∷ []

-- the rest of a name, after this byte
abbrev pub rest_text : ℕ → List Piece → List ℕ
rest_text before [] = []
rest_text before (Shown bytes ∷ pieces) = bytes ++ rest_text (last before bytes) pieces
rest_text before (Hidden b o ∷ pieces) =
    if ltb 0x7F before then single_quote ∷ dollar ∷ single_quote ∷ backslash ∷ (escape_tail b o ++ rest_text 0 pieces)
    else backslash ∷ (escape_tail b o ++ rest_text 0 pieces)

pub letters_mean : (b : ℕ) → IsLetterFor b (letter_for b)
letters_mean b = elim (cases_Bool (eqb b single_quote)) [
  | inl e ↦ subst (λ z. IsLetterFor z (letter_for z)) (sym (eqb-true b single_quote e)) (omega arith, refl)
  | inr e ↦ elim (cases_Bool (eqb b backslash)) [
    | inl f ↦ subst (λ z. IsLetterFor z (letter_for z)) (sym (eqb-true b backslash f)) (omega arith, refl)
    | inr f ↦ elim (cases_Bool (eqb b 0x0A)) [
      | inl g ↦ subst (λ z. IsLetterFor z (letter_for z)) (sym (eqb-true b 0x0A g)) (omega arith, refl)
      | inr g ↦ elim (cases_Bool (eqb b 0x09)) [
        | inl h ↦ subst (λ z. IsLetterFor z (letter_for z)) (sym (eqb-true b 0x09 h)) (omega arith, refl)
        | inr h ↦ elim (cases_Bool (eqb b 0x0D)) [
          | inl i ↦ subst (λ z. IsLetterFor z (letter_for z)) (sym (eqb-true b 0x0D i)) (omega arith, refl)
          | inr i ↦ (let n : letter_for b ≡ None = rw (e, f, g, h, i) refl in subst (IsLetterFor b) (sym n) tt)
        ]
      ]
    ]
  ]
]

-- ---- reading

module _ (l : Language) (d : l.dollar_quotes ≡ true) where
  -- within dollar-single-quotes, these characters mean the name, up to the characters of what comes after the word
  record Inside (cs : List (List ℕ)) (name after : List ℕ) : Type 0 where
    quoted : List (List ℕ)
    text : List (List ℕ)
    rest : List (List ℕ)
    meant : List ℕ
    word : List ℕ
    parts : cs ≡ quoted ++ (single_quote ∷ []) ∷ text
    is_meant : Dollared quoted meant
    is_name : meant ++ word ≡ name
    rest_are : AreCharacters after rest
    reads : Reads l false text word rest

  shown_run : (cs quoted : List (List ℕ)) (meant : List ℕ) → AllByRecursion (λ c. is_byte single_quote c ≡ false) cs → AllByRecursion (λ c. is_byte backslash c ≡ false) cs → Dollared quoted meant → Dollared (cs ++ quoted) (joined cs ++ meant)
  shown_run [] quoted meant h k r = r
  shown_run (c ∷ cs) quoted meant h k r = subst (Dollared (c ∷ (cs ++ quoted))) (sym (append_assoc c (joined cs) meant)) (itself c (cs ++ quoted) (joined cs ++ meant) h.0 k.0 (shown_run cs quoted meant h.1 k.1 r))

  extend : (first cs : List (List ℕ)) (name after : List ℕ) → AreShown (joined first) → Inside cs name after → Inside (first ++ cs) (joined first ++ name) after
  extend first cs name after h i = record {
    quoted = first ++ i.quoted;
    text = i.text;
    rest = i.rest;
    meant = joined first ++ i.meant;
    word = i.word;
    parts = ap (λ z. first ++ z) i.parts ∙ sym (append_assoc first i.quoted ((single_quote ∷ []) ∷ i.text));
    is_meant = shown_run first i.quoted i.meant (no_character single_quote first h.0) (no_character backslash first h.1) i.is_meant;
    is_name = append_assoc (joined first) i.meant i.word ∙ ap (λ z. joined first ++ z) i.is_name;
    rest_are = i.rest_are;
    reads = i.reads;
  }

  after_done : (done b : List ℕ) (k : ℕ) (cs : List (List ℕ)) (name after : List ℕ) → AreShown done → (p : Parts cs done k b) → Inside ((k ∷ []) ∷ p.rest) name after → Inside cs (done ++ name) after
  after_done done b k cs name after h p i =
      let e = p.first_are.is_joined in
      let j = extend p.first ((k ∷ []) ∷ p.rest) name after (subst AreShown (sym e) h) i in
      subst (λ z. Inside z (done ++ name) after) (sym p.parts) (subst (λ z. Inside (p.first ++ (k ∷ []) ∷ p.rest) (z ++ name) after) e j)

  at_end : (cs : List (List ℕ)) (word after : List ℕ) → IsRestAs l false cs word after → Inside ((single_quote ∷ []) ∷ cs) word after
  at_end cs word after i = record { quoted = []; text = cs; rest = i.rest; meant = []; word = word; parts = refl; is_meant = nothing; is_name = refl; rest_are = i.rest_are; reads = i.reads }

  opened : (first : Bool) (cs : List (List ℕ)) (name after : List ℕ) → Inside cs name after → IsRestAs l first ((dollar ∷ []) ∷ (single_quote ∷ []) ∷ cs) name after
  opened first cs name after i = record {
    rest = i.rest;
    rest_are = i.rest_are;
    reads = same (ap (λ z. (dollar ∷ []) ∷ (single_quote ∷ []) ∷ z) (sym i.parts)) i.is_name (dollared first ((single_quote ∷ []) ∷ []) i.quoted i.text i.meant i.word i.rest d quote i.is_meant i.reads);
  }

  -- ---- escapes

  by_digits : (b : ℕ) (text : List ℕ) (cs : List (List ℕ)) (name after : List ℕ) → IsNameByte b
      → AreCharacters ((0x30 + b / 64 % 8) ∷ (0x30 + b / 8 % 8) ∷ (0x30 + b % 8) ∷ text) cs
      → ((rest : List (List ℕ)) → AreCharacters text rest → Inside rest name after) → Inside ((backslash ∷ []) ∷ cs) (b ∷ name) after
  by_digits b text cs name after lt r go =
      let x0 = 0x30 + b / 64 % 8 in
      let x1 = 0x30 + b / 8 % 8 in
      let x2 = 0x30 + b % 8 in
      let x = first_is x0 (x1 ∷ x2 ∷ text) cs (omega arith) r in
      let y = first_is x1 (x2 ∷ text) x.rest (omega arith) x.rest_are in
      let z = first_is x2 text y.rest (omega arith) y.rest_are in
      let i = go z.rest z.rest_are in
      record {
        quoted = (backslash ∷ []) ∷ (x0 ∷ []) ∷ (x1 ∷ []) ∷ (x2 ∷ []) ∷ i.quoted;
        text = i.text;
        rest = i.rest;
        meant = b ∷ i.meant;
        word = i.word;
        parts = ap (λ t. (backslash ∷ []) ∷ t) (x.is ∙ ap (λ t. (x0 ∷ []) ∷ t) (y.is ∙ ap (λ t. (x1 ∷ []) ∷ t) (z.is ∙ ap (λ t. (x2 ∷ []) ∷ t) i.parts)));
        is_meant = escape_of (x0 ∷ x1 ∷ x2 ∷ []) b i.quoted i.meant (octal_means b lt) i.is_meant;
        is_name = ap (λ t. b ∷ t) i.is_name;
        rest_are = i.rest_are;
        reads = i.reads;
      }

  by_one : (k b : ℕ) (text : List ℕ) (cs : List (List ℕ)) (name after : List ℕ) → k < 0x80 → escape_meaning (k ∷ []) ≡ Some b
      → AreCharacters (k ∷ text) cs
      → ((rest : List (List ℕ)) → AreCharacters text rest → Inside rest name after) → Inside ((backslash ∷ []) ∷ cs) (b ∷ name) after
  by_one k b text cs name after lt m r go =
      let x = first_is k text cs lt r in
      let i = go x.rest x.rest_are in
      record {
        quoted = (backslash ∷ []) ∷ (k ∷ []) ∷ i.quoted;
        text = i.text;
        rest = i.rest;
        meant = b ∷ i.meant;
        word = i.word;
        parts = ap (λ t. (backslash ∷ []) ∷ t) (x.is ∙ ap (λ t. (k ∷ []) ∷ t) i.parts);
        is_meant = escape_of (k ∷ []) b i.quoted i.meant m i.is_meant;
        is_name = ap (λ t. b ∷ t) i.is_name;
        rest_are = i.rest_are;
        reads = i.reads;
      }

  escape_with : (b : ℕ) (o : Option ℕ) (text : List ℕ) (cs : List (List ℕ)) (name after : List ℕ) → IsNameByte b → IsLetterFor b o
      → AreCharacters (escape_tail b o ++ text) cs
      → ((rest : List (List ℕ)) → AreCharacters text rest → Inside rest name after) → Inside ((backslash ∷ []) ∷ cs) (b ∷ name) after
  escape_with b None text cs name after lt m r go = by_digits b text cs name after lt r go
  escape_with b (Some k) text cs name after lt m r go = by_one k b text cs name after m.0 m.1 r go

  -- ---- what is written

  at_once : (before b : ℕ) (o : Option ℕ) (ps : List Piece) → ltb 0x7F before ≡ false → rest_text before (Hidden b o ∷ ps) ≡ backslash ∷ (escape_tail b o ++ rest_text 0 ps)
  at_once before b o ps f = rw f refl

  again : (before b : ℕ) (o : Option ℕ) (ps : List Piece) → ltb 0x7F before ≡ true → rest_text before (Hidden b o ∷ ps) ≡ single_quote ∷ dollar ∷ single_quote ∷ backslash ∷ (escape_tail b o ++ rest_text 0 ps)
  again before b o ps f = rw f refl

  not_high : (before : ℕ) → ltb 0x7F before ≡ false → before < 0x80
  not_high before f = grind (arith, nat_tests)

  inside : (ps : List Piece) (done after : List ℕ) (cs : List (List ℕ)) → AreShown done → AllByRecursion IsPiece ps → EndsBefore after → AreCharacters (done ++ (rest_text (last 0 done) ps ++ single_quote ∷ after)) cs → Inside cs (done ++ meaning ps) after
  inside [] done after cs h v w r =
      let p = at_quote done after cs r in
      after_done done after single_quote cs [] after h p (at_end p.rest [] after (record { rest = p.rest; rest_are = p.rest_are; reads = ends false p.rest (ends_are after p.rest w p.rest_are) }))
  inside (Shown bytes ∷ ps) done after cs h v w r =
      let m = last (last 0 done) bytes in
      let t : done ++ ((bytes ++ rest_text m ps) ++ single_quote ∷ after) ≡ (done ++ bytes) ++ (rest_text (last 0 (done ++ bytes)) ps ++ single_quote ∷ after) =
      rw (last_joined 0 done bytes) (simp append_assoc) in
      let shown : AreShown (done ++ bytes) = (all_joined (λ x. eqb x single_quote ≡ false) done bytes h.0 v.0.0, all_joined (λ x. eqb x backslash ≡ false) done bytes h.1 v.0.1) in
      subst (λ z. Inside cs z after) (append_assoc done bytes (meaning ps)) (inside ps (done ++ bytes) after cs shown v.1 w (subst (λ z. AreCharacters z cs) t r))
  inside (Hidden b o ∷ ps) done after cs h v w r =
      let tail = escape_tail b o in
      let more = rest_text 0 ps ++ single_quote ∷ after in
      let text = tail ++ more in
      let name = b ∷ meaning ps in
      let escape = λ (rest : List (List ℕ)) (a : AreCharacters text rest). escape_with b o more rest (meaning ps) after v.0.0 v.0.1 a (λ rest a. inside ps [] after rest (tt, tt) v.1 w a) in
      elim (cases_Bool (ltb 0x7F (last 0 done))) [
        | inl f ↦
            let t : done ++ (rest_text (last 0 done) (Hidden b o ∷ ps) ++ single_quote ∷ after) ≡ done ++ single_quote ∷ dollar ∷ single_quote ∷ backslash ∷ text = rw (again (last 0 done) b o ps f) (simp append_assoc) in
            let p = at_quote done (dollar ∷ single_quote ∷ backslash ∷ text) cs (subst (λ z. AreCharacters z cs) t r) in
            let x = first_is dollar (single_quote ∷ backslash ∷ text) p.rest (omega arith) p.rest_are in
            let y = first_is single_quote (backslash ∷ text) x.rest (omega arith) x.rest_are in
            let z = first_is backslash text y.rest (omega arith) y.rest_are in
            let x3 = opened false ((backslash ∷ []) ∷ z.rest) name after (escape z.rest z.rest_are) in
            let e = x.is ∙ ap (λ t. (dollar ∷ []) ∷ t) (y.is ∙ ap (λ t. (single_quote ∷ []) ∷ t) z.is) in
            after_done done (dollar ∷ single_quote ∷ backslash ∷ text) single_quote cs name after h p (at_end p.rest name after (subst (λ t. IsRestAs l false t name after) (sym e) x3))
        | inr f ↦
            let t : done ++ (rest_text (last 0 done) (Hidden b o ∷ ps) ++ single_quote ∷ after) ≡ done ++ backslash ∷ text = rw (at_once (last 0 done) b o ps f) (simp append_assoc) in
            let s = subst (λ z. AreCharacters z cs) t r in
            let low : last 0 done < 0x80 = not_high (last 0 done) f in
            let p = split cs s.are_characters done 0 backslash text s.is_joined (omega arith, inr low) in
            after_done done text backslash cs name after h p (escape p.rest p.rest_are)
      ]

  pub pieces_read : (pieces : List Piece) → AllByRecursion IsPiece pieces → IsCharacterText l (dollar ∷ single_quote ∷ (rest_text 0 pieces ++ single_quote ∷ [])) (meaning pieces)
  pieces_read pieces v after cs e r =
      let t : dollar ∷ single_quote ∷ ((rest_text 0 pieces ++ single_quote ∷ []) ++ after) ≡ dollar ∷ single_quote ∷ (rest_text 0 pieces ++ single_quote ∷ after) = simp append_assoc in
      let x = first_is dollar (single_quote ∷ (rest_text 0 pieces ++ single_quote ∷ after)) cs (omega arith) (subst (λ z. AreCharacters z cs) t r) in
      let y = first_is single_quote (rest_text 0 pieces ++ single_quote ∷ after) x.rest (omega arith) x.rest_are in
      let o = opened true y.rest (meaning pieces) after (inside pieces [] after y.rest (tt, tt) v e y.rest_are) in
      let whole = x.is ∙ ap (λ z. (dollar ∷ []) ∷ z) y.is in
      subst (λ z. IsReadAs l z (meaning pieces) after) (sym whole) (record { rest = o.rest; rest_are = o.rest_are; begins = begins_with dollar ((single_quote ∷ []) ∷ y.rest) refl (λ g. omega (arith, g)); reads = o.reads })
