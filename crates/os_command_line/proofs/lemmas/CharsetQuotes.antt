-- What is quoted is read back, in each charset that keeps the bytes on which quotes depend.
use Rattle.std.proofs.Common.{◌≡◌, ◌≢◌, ℕ, ◌<◌, Bool, true, false, ◌&&◌, eqb, List, [], ◌∷◌, ◌++◌, refl, sym, ap, ◌∙◌, subst, arith, append_assoc, inl, inr}
use Rattle.std.specs.List.{All, AllByRecursion}
use Rattle.std.proofs.lemmas.Bool.{cases_Bool, eqb-true, true≢false, and_parts}
use Rattle.std.proofs.lemmas.List.Elements.{recursion_from_All}
use Rattle.wtf8_core.specs.Byte.{IsByte}
use Rattle.os_command_line.specs.declared.shell.language.Language.{Language}
use Rattle.os_command_line.specs.Charset.{IsCharacter, joined, AreCharacters, is_one, is_byte}
use Rattle.os_command_line.specs.Charset.IsCharacter.{byte, longer}
use Rattle.os_command_line.specs.Shell.{single_quote, backslash, dollar, newline, is_blank, is_mark, is_special}
use Rattle.os_command_line.specs.ShellCharacters.{opens_dollar, IsBare, Ends, EndsBefore, Begins, Reads, IsReadAs, IsCharacterText}
use Rattle.os_command_line.specs.ShellCharacters.Reads.{ends, bare, escaped, single}
use Rattle.os_command_line.specs.ShellWriting.{AreBytes, is_plain, are_plain, is_plain_name, caret, single_text, single_quoted, quoted_word}
use Rattle.os_command_line.proofs.lemmas.CharsetCuts.{Parts, split}
use Rattle.os_command_line.proofs.lemmas.Lists.{all_joined, both_parts}
use Rattle.os_command_line.proofs.lemmas.ShellOneReading.{and_none, blank_is}
use Rattle.os_command_line.proofs.lemmas.ShellRoundTrip.{plain_is, not_special, plain_low}

-- none of these bytes is `k`
abbrev pub HasNo : ℕ → List ℕ → Type 0
HasNo k bytes = AllByRecursion (λ b. eqb b k ≡ false) bytes

-- where none of the bytes is, no character is
pub no_character : (k : ℕ) (cs : List (List ℕ)) → HasNo k (joined cs) → AllByRecursion (λ c. is_byte k c ≡ false) cs
no_character k [] h = tt
no_character k ([] ∷ cs) h = (refl, no_character k cs h)
no_character k ((b ∷ []) ∷ cs) h = (h.0, no_character k cs h.1)
no_character k ((b ∷ c ∷ bytes) ∷ cs) h = (refl, no_character k cs (both_parts (λ x. eqb x k ≡ false) (b ∷ c ∷ bytes) (joined cs) h).1)

has_byte : (c text : List ℕ) → IsCharacter c → c ++ text ≡ [] → ⊥
has_byte _ text (byte b) e = cc
has_byte _ text (longer b bytes h m) e = cc

pub none_joined : (cs : List (List ℕ)) → AllByRecursion IsCharacter cs → joined cs ≡ [] → cs ≡ []
none_joined [] i e = refl
none_joined (c ∷ cs) i e = absurd (has_byte c (joined cs) i.0 e)

-- a byte below 80 that is first is a character
pub record First (k : ℕ) (b : List ℕ) (cs : List (List ℕ)) : Type 0 where
  pub rest : List (List ℕ)
  pub is : cs ≡ (k ∷ []) ∷ rest
  pub rest_are : AreCharacters b rest

pub first_is : (k : ℕ) (b : List ℕ) (cs : List (List ℕ)) → k < 0x80 → AreCharacters (k ∷ b) cs → First k b cs
first_is k b cs lt r =
    let p = split cs r.are_characters [] 0 k b r.is_joined (lt, inr (omega arith)) in
    let n = none_joined p.first p.first_are.are_characters p.first_are.is_joined in
    record { rest = p.rest; is = p.parts ∙ ap (λ z. z ++ (k ∷ []) ∷ p.rest) n; rest_are = p.rest_are }

blank_below : (b : ℕ) → is_blank b ≡ true → b < 0x80
blank_below b h = elim (blank_is b h) [ inl e ↦ omega (arith, e) | inr r ↦ elim r [ inl e ↦ omega (arith, e) | inr e ↦ omega (arith, e) ] ]

pub ends_are : (after : List ℕ) (cs : List (List ℕ)) → EndsBefore after → AreCharacters after cs → Ends cs
ends_are [] cs e r = subst Ends (sym (none_joined cs r.are_characters r.is_joined)) tt
ends_are (b ∷ after) cs e r = let f = first_is b after cs (blank_below b e) r in subst Ends (sym f.is) e

pub same : {l : Language} {first : Bool} {cs ds : List (List ℕ)} {w v : List ℕ} {rest : List (List ℕ)} → cs ≡ ds → w ≡ v → Reads l first cs w rest → Reads l first ds v rest
same {l} {first} {cs} {ds} {w} {v} {rest} e f r = subst (λ z. Reads l first z v rest) e (subst (λ z. Reads l first cs z rest) f r)

-- the characters are read as the word, or the rest of one, up to those of what comes after it
pub record IsRestAs (l : Language) (first : Bool) (cs : List (List ℕ)) (word after : List ℕ) : Type 0 where
  pub rest : List (List ℕ)
  pub rest_are : AreCharacters after rest
  pub reads : Reads l first cs word rest

-- a word begins with a byte that is no blank and no backslash
pub begins_with : (b : ℕ) (cs : List (List ℕ)) → is_blank b ≡ false → b ≢ backslash → Begins ((b ∷ []) ∷ cs)
begins_with b cs n s = record { some = λ e. cc; no_blank = λ c rest e. of_first c rest e; no_join = λ rest e. s (of_join rest e) }
  where
    of_first : (c : List ℕ) (rest : List (List ℕ)) → (b ∷ []) ∷ cs ≡ c ∷ rest → is_one is_blank c ≡ false
    of_first c rest e = let f : b ∷ [] ≡ c = cc in subst (λ z. is_one is_blank z ≡ false) f n

    of_join : (rest : List (List ℕ)) → (b ∷ []) ∷ cs ≡ (backslash ∷ []) ∷ (newline ∷ []) ∷ rest → b ≡ backslash
    of_join rest e = cc

-- the quotes are closed, and more is read
closed : (l : Language) (first : Bool) (done b : List ℕ) (cs : List (List ℕ)) (word : List ℕ) (after : List (List ℕ)) → HasNo single_quote done → (p : Parts cs done single_quote b) → Reads l false p.rest word after → Reads l first ((single_quote ∷ []) ∷ cs) (done ++ word) after
closed l first done b cs word after h p r =
    let n = no_character single_quote p.first (subst (HasNo single_quote) (sym p.first_are.is_joined) h) in
    same (ap (λ z. (single_quote ∷ []) ∷ z) (sym p.parts)) (ap (λ z. z ++ word) p.first_are.is_joined) (single first p.first p.rest word after n r)

pub at_quote : (done b : List ℕ) (cs : List (List ℕ)) → AreCharacters (done ++ single_quote ∷ b) cs → Parts cs done single_quote b
at_quote done b cs r = split cs r.are_characters done 0 single_quote b r.is_joined (omega arith, inl refl)

-- in single quotes, after some bytes
single_read : (l : Language) (first line : Bool) (done name after : List ℕ) (cs : List (List ℕ)) → HasNo single_quote done → EndsBefore after → AreCharacters (done ++ (single_text line name ++ single_quote ∷ after)) cs → IsRestAs l first ((single_quote ∷ []) ∷ cs) (done ++ name) after
single_read l first line done [] after cs h e r =
    let p = at_quote done after cs r in
    record { rest = p.rest; rest_are = p.rest_are; reads = closed l first done after cs [] p.rest h p (ends false p.rest (ends_are after p.rest e p.rest_are)) }
single_read l first line done (b ∷ name) after cs h e r = elim (cases_Bool (eqb b single_quote)) [
  | inl q ↦
      let f = eqb-true b single_quote q in
      let text = single_text false name ++ single_quote ∷ after in
      let s = subst (λ z. AreCharacters (done ++ (single_text line (z ∷ name) ++ single_quote ∷ after)) cs) f r in
      let p = at_quote done (backslash ∷ single_quote ∷ single_quote ∷ text) cs s in
      let x = first_is backslash (single_quote ∷ single_quote ∷ text) p.rest (omega arith) p.rest_are in
      let y = first_is single_quote (single_quote ∷ text) x.rest (omega arith) x.rest_are in
      let z = first_is single_quote text y.rest (omega arith) y.rest_are in
      let again = single_read l false false [] name after z.rest tt e z.rest_are in
      let more = escaped false (single_quote ∷ []) ((single_quote ∷ []) ∷ z.rest) name again.rest refl again.reads in
      let all = same (sym (x.is ∙ ap (λ t. (backslash ∷ []) ∷ t) (y.is ∙ ap (λ t. (single_quote ∷ []) ∷ t) z.is))) refl more in
      subst (λ k. IsRestAs l first ((single_quote ∷ []) ∷ cs) (done ++ k ∷ name) after) (sym f)
      (record { rest = again.rest; rest_are = again.rest_are; reads = closed l first done (backslash ∷ single_quote ∷ single_quote ∷ text) cs (single_quote ∷ name) again.rest h p all })
  | inr q ↦ elim (cases_Bool (line && eqb b caret)) [
    | inl f ↦
        let s = subst (λ z. AreCharacters (done ++ z) cs) (apart q f) r in
        let p = at_quote done (single_quote ∷ b ∷ text) cs s in
        let x = first_is single_quote (b ∷ text) p.rest (omega arith) p.rest_are in
        let again = single_read l false (eqb b newline) (b ∷ []) name after x.rest (q, tt) e x.rest_are in
        let all = same (sym x.is) refl again.reads in
        record { rest = again.rest; rest_are = again.rest_are; reads = closed l first done (single_quote ∷ b ∷ text) cs (b ∷ name) again.rest h p all }
    | inr f ↦
        let t = ap (λ z. done ++ z) (whole q f) ∙ sym (append_assoc done (b ∷ []) text) in
        let more = single_read l first (eqb b newline) (done ++ b ∷ []) name after cs (all_joined (λ x. eqb x single_quote ≡ false) done (b ∷ []) h (q, tt)) e (subst (λ z. AreCharacters z cs) t r) in
        subst (λ z. IsRestAs l first ((single_quote ∷ []) ∷ cs) z after) (append_assoc done (b ∷ []) name) more
  ]
]
  where
    text : List ℕ
    text = single_text (eqb b newline) name ++ single_quote ∷ after

    whole : eqb b single_quote ≡ false → line && eqb b caret ≡ false → single_text line (b ∷ name) ++ single_quote ∷ after ≡ b ∷ text
    whole q f = rw (q, f) refl

    -- the quotes end and begin again before it
    apart : eqb b single_quote ≡ false → line && eqb b caret ≡ true → single_text line (b ∷ name) ++ single_quote ∷ after ≡ single_quote ∷ single_quote ∷ b ∷ text
    apart q f = rw (q, f) refl

pub single_is : (l : Language) (name : List ℕ) → IsCharacterText l (single_quoted name) name
single_is l name after cs e r =
    let t = append_assoc (single_text false name) (single_quote ∷ []) after in
    let f = first_is single_quote (single_text false name ++ single_quote ∷ after) cs (omega arith) (subst (λ z. AreCharacters (single_quote ∷ z) cs) t r) in
    let i = single_read l true false [] name after f.rest tt e f.rest_are in
    subst (λ z. IsReadAs l z name after) (sym f.is) (record { rest = i.rest; rest_are = i.rest_are; begins = begins_with single_quote f.rest refl (λ g. omega (arith, g)); reads = i.reads })

-- ---- bytes that mean themselves

is_bare : (l : Language) (first : Bool) (b : ℕ) (cs : List (List ℕ)) → b < 0x100 → is_plain b ≡ true → IsBare l first (b ∷ []) cs
is_bare l first b cs lt p =
    let h = plain_is b lt p in
    record { no_mark = h.0; no_blank = h.1; no_dollar = no_dollar h.3; no_special = and_none l.refuses_specials (is_special first b) (not_special first b h.2) }
  where
    no_dollar : eqb b dollar ≡ false → opens_dollar l (b ∷ []) cs ≡ false
    no_dollar e = and_none l.dollar_quotes _ (rw e refl)

plain_text : (l : Language) (first : Bool) (name after : List ℕ) (cs : List (List ℕ)) → AreBytes name → are_plain name ≡ true → EndsBefore after → AreCharacters (name ++ after) cs → IsRestAs l first cs name after
plain_text l first [] after cs w p e r = record { rest = cs; rest_are = r; reads = ends first cs (ends_are after cs e r) }
plain_text l first (b ∷ name) after cs w p e r =
    let h = and_parts (is_plain b) (are_plain name) p in
    let f = first_is b (name ++ after) cs (plain_low b h.0) r in
    let i = plain_text l false name after f.rest w.1 h.1 e f.rest_are in
    subst (λ z. IsRestAs l first z (b ∷ name) after) (sym f.is) (record { rest = i.rest; rest_are = i.rest_are; reads = bare first (b ∷ []) f.rest name i.rest (is_bare l first b f.rest w.0 h.0) i.reads })

pub plain_is_text : (l : Language) (name : List ℕ) → AreBytes name → is_plain_name name ≡ true → IsCharacterText l name name
plain_is_text l [] w p after cs e r = absurd (true≢false (sym p))
plain_is_text l (b ∷ name) w p after cs e r =
    let h = and_parts (is_plain b) (are_plain name) p in
    let f = first_is b (name ++ after) cs (plain_low b h.0) r in
    let i = plain_text l true (b ∷ name) after cs w p e r in
    let k = plain_is b w.0 h.0 in
    record { rest = i.rest; rest_are = i.rest_are; begins = subst Begins (sym f.is) (begins_with b f.rest k.1 (λ g. true≢false (sym (ap is_mark g) ∙ k.0))); reads = i.reads }

-- a name's word is read as the name
pub word_is : (l : Language) (name : List ℕ) → AreBytes name → IsCharacterText l (quoted_word name) name
word_is l name w = elim (cases_Bool (is_plain_name name)) [
  | inl p ↦ subst (λ z. IsCharacterText l z name) (sym (plain_word p)) (plain_is_text l name w p)
  | inr p ↦ subst (λ z. IsCharacterText l z name) (sym (other_word p)) (single_is l name)
]
  where
    plain_word : is_plain_name name ≡ true → quoted_word name ≡ name
    plain_word p = rw p refl

    other_word : is_plain_name name ≡ false → quoted_word name ≡ single_quoted name
    other_word p = rw p refl

pub word_text : (l : Language) (name text : List ℕ) → All IsByte name → text ≡ quoted_word name → IsCharacterText l text name
word_text l name text w e = subst (λ z. IsCharacterText l z name) (sym e) (word_is l name (recursion_from_All IsByte name w))
