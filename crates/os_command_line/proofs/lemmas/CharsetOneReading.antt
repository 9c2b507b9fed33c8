-- Characters are read as one word: what the rules say is what the steps of a reader give.
use Rattle.std.proofs.Common.{◌≡◌, ℕ, Bool, true, false, ◌||◌, ◌&&◌, if◌then◌else◌, eqb, List, [], ◌∷◌, ◌++◌, refl, sym, ap, ◌∙◌, subst, append_assoc, Option, None, Some, inl, inr}
use Rattle.std.proofs.lemmas.Bool.{cases_Bool, true≢false, and_parts}
use Rattle.os_command_line.specs.declared.shell.language.Language.{Language}
use Rattle.os_command_line.specs.Charset.{joined, single_bytes, is_one, is_byte}
use Rattle.os_command_line.specs.Shell.{single_quote, double_quote, backslash, dollar, newline, is_mark, is_blank, is_expansion, is_escapable, is_octal, letter_meaning, octal_meaning, escape_meaning}
use Rattle.os_command_line.specs.ShellCharacters.{begins_quote, opens_dollar, IsOpening, IsBare, HasNoQuote, IsItselfDoubled, Doubled, Dollared, Ends, Reads}
use Rattle.os_command_line.specs.ShellCharacters.IsOpening.{quote, line_joined}
use Rattle.os_command_line.specs.ShellCharacters.Doubled.{none, plain, escape, line_joined as doubled_joined, kept}
use Rattle.os_command_line.specs.ShellCharacters.Dollared.{nothing, itself, escape_of}
use Rattle.os_command_line.specs.ShellCharacters.Reads.{ends, bare, escaped, continued, single, double, dollared}
use Rattle.os_command_line.proofs.lemmas.ShellOneReading.{blank_is, no_mark, or_false, digit_no_letter}

data Mode : Type 0 where
  Outside : Mode
  Escaped : Mode
  Single : Mode
  Double : Mode
  DoubleEscaped : Mode
  Opening : Mode
  Dollar : Mode
  FirstLetter : Mode
  SecondDigit : ℕ → Mode
  ThirdDigit : ℕ → ℕ → Mode

abbrev first_byte : List ℕ → ℕ
first_byte [] = 0
first_byte (b ∷ bs) = b

abbrev after_letter : Option ℕ → List ℕ → List ℕ → List ℕ
after_letter (Some b) word digits = b ∷ word
after_letter None word digits = digits

abbrev after_octal : Option ℕ → List ℕ → List ℕ
after_octal (Some b) word = b ∷ word
after_octal None word = []

unfoldable read : Language → Mode → List (List ℕ) → List ℕ
read l m [] = []
read l Outside (c ∷ cs) =
    if is_one is_blank c then []
    else (if is_byte single_quote c then read l Single cs
    else (if is_byte double_quote c then read l Double cs
    else (if is_byte backslash c then read l Escaped cs
    else (if opens_dollar l c cs then read l Opening cs else c ++ read l Outside cs))))
read l Escaped (c ∷ cs) = if is_byte newline c then read l Outside cs else c ++ read l Outside cs
read l Single (c ∷ cs) = if is_byte single_quote c then read l Outside cs else c ++ read l Single cs
read l Double (c ∷ cs) =
    if is_byte double_quote c then read l Outside cs
    else (if is_byte backslash c then read l DoubleEscaped cs else c ++ read l Double cs)
read l DoubleEscaped (c ∷ cs) =
    if is_one is_escapable c then c ++ read l Double cs
    else (if is_byte newline c then read l Double cs else backslash ∷ (c ++ read l Double cs))
read l Opening (c ∷ cs) = if is_byte single_quote c then read l Dollar cs else read l Opening cs
read l Dollar (c ∷ cs) =
    if is_byte single_quote c then read l Outside cs
    else (if is_byte backslash c then read l FirstLetter cs else c ++ read l Dollar cs)
read l FirstLetter (c ∷ cs) = after_letter (letter_meaning (first_byte c)) (read l Dollar cs) (read l (SecondDigit (first_byte c)) cs)
read l (SecondDigit a) (c ∷ cs) = read l (ThirdDigit a (first_byte c)) cs
read l (ThirdDigit a b) (c ∷ cs) = after_octal (octal_meaning a b (first_byte c)) (read l Dollar cs)

module _ (l : Language) where
  of_single : (quoted text : List (List ℕ)) → HasNoQuote quoted → read l Single (quoted ++ (single_quote ∷ []) ∷ text) ≡ joined quoted ++ read l Outside text
  unfolding read
  of_single [] text h = refl
  of_single (c ∷ quoted) text h = rw h.0 (ap (λ z. c ++ z) (of_single quoted text h.1) ∙ sym (append_assoc c (joined quoted) (read l Outside text)))

  -- a character that a backslash doesn't escape in double quotes is no double quote and no backslash
  not_escapable : (c : List ℕ) → is_one is_escapable c ≡ false → (is_byte double_quote c ≡ false) × (is_byte backslash c ≡ false)
  not_escapable [] h = (refl, refl)
  not_escapable (b ∷ []) h =
      let p = or_false (is_expansion b) (eqb b double_quote || eqb b backslash) h in
      let q = or_false (eqb b double_quote) (eqb b backslash) p.1 in
      (q.0, q.1)
  not_escapable (b ∷ c ∷ bytes) h = (refl, refl)

  of_double : (quoted : List (List ℕ)) (meant : List ℕ) (text : List (List ℕ)) → Doubled l quoted meant → read l Double (quoted ++ (double_quote ∷ []) ∷ text) ≡ meant ++ read l Outside text
  unfolding read
  of_double _ _ text none = refl
  of_double _ _ text (plain c quoted word h r) = rw (h.no_quote, h.no_backslash) (ap (λ z. c ++ z) (of_double quoted word text r) ∙ sym (append_assoc c word (read l Outside text)))
  of_double _ _ text (escape c quoted word h r) = rw h (ap (λ z. c ++ z) (of_double quoted word text r) ∙ sym (append_assoc c word (read l Outside text)))
  of_double _ _ text (doubled_joined quoted word r) = of_double quoted word text r
  of_double _ _ text (kept c quoted word h n r) =
      let e = not_escapable c h in
      rw (h, n) (ap (λ z. backslash ∷ z) (sym (at_plain e.0 e.1) ∙ of_double (c ∷ quoted) word text r))
    where
      at_plain : is_byte double_quote c ≡ false → is_byte backslash c ≡ false → read l Double (c ∷ (quoted ++ (double_quote ∷ []) ∷ text)) ≡ c ++ read l Double (quoted ++ (double_quote ∷ []) ∷ text)
      at_plain q s = rw (q, s) refl

  no_some : (b : ℕ) → None ≡ Some b → ⊥
  no_some b e = cc

  first_octal : (c d e b : ℕ) → octal_meaning c d e ≡ Some b → is_octal c ≡ true
  first_octal c d e b h = elim (cases_Bool (is_octal c)) [ inl t ↦ t | inr f ↦ absurd (no_some b (sym (none_of f) ∙ h)) ]
    where
      none_of : is_octal c ≡ false → octal_meaning c d e ≡ None
      none_of f = rw f refl

  of_letters : (letters : List ℕ) (b : ℕ) (cs : List (List ℕ)) → escape_meaning letters ≡ Some b → read l FirstLetter (single_bytes letters ++ cs) ≡ b ∷ read l Dollar cs
  unfolding read
  of_letters [] b cs h = absurd (no_some b h)
  of_letters (c ∷ []) b cs h = ap (λ o. after_letter o (read l Dollar cs) (read l (SecondDigit c) cs)) h
  of_letters (c ∷ d ∷ []) b cs h = absurd (no_some b h)
  of_letters (c ∷ d ∷ e ∷ []) b cs h = rw (digit_no_letter c (first_octal c d e b h)) (ap (λ o. after_octal o (read l Dollar cs)) h)
  of_letters (c ∷ d ∷ e ∷ f ∷ more) b cs h = absurd (no_some b h)

  of_dollar : (quoted : List (List ℕ)) (meant : List ℕ) (text : List (List ℕ)) → Dollared quoted meant → read l Dollar (quoted ++ (single_quote ∷ []) ∷ text) ≡ meant ++ read l Outside text
  unfolding read
  of_dollar _ _ text nothing = refl
  of_dollar _ _ text (itself c quoted word h k d) = rw (h, k) (ap (λ z. c ++ z) (of_dollar quoted word text d) ∙ sym (append_assoc c word (read l Outside text)))
  of_dollar _ _ text (escape_of letters b quoted word m d) =
      ap (read l FirstLetter) (append_assoc (single_bytes letters) quoted ((single_quote ∷ []) ∷ text)) ∙ of_letters letters b (quoted ++ (single_quote ∷ []) ∷ text) m ∙ ap (λ z. b ∷ z) (of_dollar quoted word text d)

  of_opening : (opening cs : List (List ℕ)) → IsOpening opening → read l Opening (opening ++ cs) ≡ read l Dollar cs
  unfolding read
  of_opening _ cs quote = refl
  of_opening _ cs (line_joined opening h) = of_opening opening cs h

  begins : (opening cs : List (List ℕ)) → IsOpening opening → begins_quote (opening ++ cs) ≡ true
  begins _ [] quote = refl
  begins _ (c ∷ cs) quote = refl
  begins _ cs (line_joined opening h) = begins opening cs h

  at_dollar : (opening cs : List (List ℕ)) → l.dollar_quotes ≡ true → IsOpening opening → read l Outside ((dollar ∷ []) ∷ (opening ++ cs)) ≡ read l Opening (opening ++ cs)
  unfolding read
  at_dollar opening cs d h =
      let o : opens_dollar l (dollar ∷ []) (opening ++ cs) ≡ true = ap (λ x. x && begins_quote (opening ++ cs)) d ∙ begins opening cs h in
      ap (λ x. if x then read l Opening (opening ++ cs) else (dollar ∷ []) ++ read l Outside (opening ++ cs)) o

  -- a character that is no mark
  unmarked : (c : List ℕ) → is_one is_mark c ≡ false → (is_byte single_quote c ≡ false) × (is_byte double_quote c ≡ false) × (is_byte backslash c ≡ false)
  unmarked [] h = (refl, refl, refl)
  unmarked (b ∷ []) h = no_mark b h
  unmarked (b ∷ c ∷ bytes) h = (refl, refl, refl)

  of_end : (after : List (List ℕ)) → Ends after → read l Outside after ≡ []
  unfolding read
  of_end [] e = refl
  of_end (c ∷ after) e = rw e refl

  of_word : (first : Bool) (cs : List (List ℕ)) (word : List ℕ) (after : List (List ℕ)) → Reads l first cs word after → read l Outside cs ≡ word
  unfolding read
  of_word _ _ _ _ (ends first after e) = of_end after e
  of_word _ _ _ _ (bare first c text word after h r) = let m = unmarked c h.no_mark in rw (h.no_blank, m.0, m.1, m.2, h.no_dollar) (ap (λ z. c ++ z) (of_word false text word after r))
  of_word _ _ _ _ (escaped first c text word after n r) = rw n (ap (λ z. c ++ z) (of_word false text word after r))
  of_word _ _ _ _ (continued first text word after r) = of_word first text word after r
  of_word _ _ _ _ (single first quoted text word after h r) = of_single quoted text h ∙ ap (λ z. joined quoted ++ z) (of_word false text word after r)
  of_word _ _ _ _ (double first quoted text meant word after d r) = of_double quoted meant text d ∙ ap (λ z. meant ++ z) (of_word false text word after r)
  of_word _ _ _ _ (dollared first opening quoted text meant word after d i h r) =
      at_dollar opening (quoted ++ (single_quote ∷ []) ∷ text) d i ∙ of_opening opening (quoted ++ (single_quote ∷ []) ∷ text) i ∙ of_dollar quoted meant text h ∙ ap (λ z. meant ++ z) (of_word false text word after r)

pub one_word : (l : Language) (cs : List (List ℕ)) (a b : List ℕ) (p q : List (List ℕ)) → Reads l true cs a p → Reads l true cs b q → a ≡ b
one_word l cs a b p q r s = sym (of_word l true cs a p r) ∙ of_word l true cs b q s
