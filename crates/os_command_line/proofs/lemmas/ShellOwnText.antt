-- A word's own text: what comes before the rest of a line is read alone as the same word.
use Rattle.std.proofs.Common.{◌≡◌, ℕ, Bool, true, false, ◌||◌, ◌&&◌, eqb, List, [], ◌∷◌, ◌++◌, refl, sym, ap, ◌∙◌, subst, append_assoc, inl, inr}
use Rattle.std.proofs.lemmas.Bool.{cases_Bool, true≢false, and_parts}
use Rattle.os_command_line.specs.declared.shell.language.Language.{Language}
use Rattle.os_command_line.specs.Shell.{single_quote, double_quote, backslash, dollar, newline, begins_quote, opens_dollar, IsBare, Outcome, prepend, Ends, Reads}
use Rattle.os_command_line.specs.Shell.Outcome.{Word, Fault}
use Rattle.os_command_line.specs.Shell.Reads.{ends, bare, escaped, continued, single, double, dollared, trailing, unclosed, undoubled, unescaped, undollared, unfinished, unknown, special, expands, keeps}
use Rattle.os_command_line.proofs.lemmas.ShellOneReading.{or_true}
use Rattle.os_command_line.proofs.lemmas.ShellEachLine.{same}

-- the text of a word is its own and what comes after it, before which it ends, and its own is read alone; that of a fault is what comes before the fault and the text from it on
abbrev pub IsAlone : Language → Bool → List ℕ → Outcome → Type 0
IsAlone l first text (Word word after) = (own : List ℕ) × (text ≡ own ++ after) × Reads l first own (Word word []) × Ends after
IsAlone l first text (Fault kind left) = (own : List ℕ) × (text ≡ own ++ left)

-- the same with these bytes before it, which mean those
alone_more : (l : Language) (first next : Bool) (taken added text : List ℕ) (o : Outcome) → ((own after word : List ℕ) → text ≡ own ++ after → Reads l next own (Word word []) → Reads l first (taken ++ own) (Word (added ++ word) []))
    → IsAlone l next text o → IsAlone l first (taken ++ text) (prepend added o)
alone_more l first next taken added text (Word word after) f a = (taken ++ a.0, ap (λ z. taken ++ z) a.1 ∙ sym (append_assoc taken a.0 after), f a.0 after word a.1 a.2, a.3)
alone_more l first next taken added text (Fault kind left) f a = (taken ++ a.0, ap (λ z. taken ++ z) a.1 ∙ sym (append_assoc taken a.0 left))

abbrev pub around : ℕ → List ℕ → ℕ → List ℕ
around a quoted b = a ∷ (quoted ++ b ∷ [])

pub around_is : (a : ℕ) (quoted : List ℕ) (b : ℕ) (text : List ℕ) → around a quoted b ++ text ≡ a ∷ (quoted ++ b ∷ text)
around_is a quoted b text = ap (λ z. a ∷ z) (append_assoc quoted (b ∷ []) text)

abbrev pub opened : List ℕ → List ℕ → List ℕ
opened opening quoted = dollar ∷ (opening ++ (quoted ++ single_quote ∷ []))

pub opened_is : (opening quoted text : List ℕ) → opened opening quoted ++ text ≡ dollar ∷ (opening ++ (quoted ++ single_quote ∷ text))
opened_is opening quoted text = ap (λ z. dollar ∷ z) (append_assoc opening (quoted ++ single_quote ∷ []) text ∙ ap (λ z. opening ++ z) (append_assoc quoted (single_quote ∷ []) text))

or_right : (a b : Bool) → b ≡ true → a || b ≡ true
or_right true b h = refl
or_right false b h = h

both_true : (a b c : Bool) → a ≡ true → b ≡ true → c ≡ true → a && (b && c) ≡ true
both_true a b c p q r = rw (p, q, r) refl

quote_before : (own after : List ℕ) → begins_quote own ≡ true → begins_quote (own ++ after) ≡ true
quote_before [] after h = absurd (true≢false (sym h))
quote_before (b ∷ []) [] h = h
quote_before (b ∷ []) (c ∷ after) h = rw h refl
quote_before (b ∷ c ∷ own) after h = elim (or_true (eqb b single_quote) (eqb b backslash && (eqb c newline && begins_quote own)) h) [
  | inl e ↦ rw e refl
  | inr r ↦
      let p = and_parts (eqb b backslash) (eqb c newline && begins_quote own) r in
      let q = and_parts (eqb c newline) (begins_quote own) p.1 in
      or_right (eqb b single_quote) _ (both_true (eqb b backslash) (eqb c newline) (begins_quote (own ++ after)) p.0 q.0 (quote_before own after q.1))
]

opens_before : (l : Language) (b : ℕ) (own after : List ℕ) → opens_dollar l b own ≡ true → opens_dollar l b (own ++ after) ≡ true
opens_before l b own after h =
    let p = and_parts l.dollar_quotes (eqb b dollar && begins_quote own) h in
    let q = and_parts (eqb b dollar) (begins_quote own) p.1 in
    both_true l.dollar_quotes (eqb b dollar) (begins_quote (own ++ after)) p.0 q.0 (quote_before own after q.1)

no_dollar_before : (l : Language) (b : ℕ) (own after : List ℕ) → opens_dollar l b (own ++ after) ≡ false → opens_dollar l b own ≡ false
no_dollar_before l b own after h = elim (cases_Bool (opens_dollar l b own)) [
  | inl t ↦ absurd (true≢false (sym (opens_before l b own after t) ∙ h))
  | inr f ↦ f
]

bare_before : (l : Language) (first : Bool) (b : ℕ) (text own after : List ℕ) → text ≡ own ++ after → IsBare l first b text → IsBare l first b own
bare_before l first b text own after e h = record { no_mark = h.no_mark; no_blank = h.no_blank; no_dollar = no_dollar_before l b own after (subst (λ z. opens_dollar l b z ≡ false) e h.no_dollar); no_special = h.no_special }

pub alone : (l : Language) (first : Bool) (text : List ℕ) (o : Outcome) → Reads l first text o → IsAlone l first text o
alone l _ _ _ (ends first after e) = ([], refl, ends first [] tt, e)
alone l _ _ _ (bare first b text o h r) = alone_more l first false (b ∷ []) (b ∷ []) text o (λ own after word e s. bare first b own (Word word []) (bare_before l first b text own after e h) s) (alone l false text o r)
alone l _ _ _ (escaped first b text o h r) = alone_more l first false (backslash ∷ b ∷ []) (b ∷ []) text o (λ own after word e s. escaped first b own (Word word []) h s) (alone l false text o r)
alone l _ _ _ (continued first text o r) =
    nothing_first o (alone_more l first first (backslash ∷ newline ∷ []) [] text o (λ own after word e s. continued first own (Word word []) s) (alone l first text o r))
  where
    nothing_first : (o : Outcome) → IsAlone l first (backslash ∷ newline ∷ text) (prepend [] o) → IsAlone l first (backslash ∷ newline ∷ text) o
    nothing_first (Word word after) a = a
    nothing_first (Fault kind left) a = a
alone l _ _ _ (single first quoted text o h r) =
    subst (λ z. IsAlone l first z (prepend quoted o)) (around_is single_quote quoted single_quote text)
    (alone_more l first false (around single_quote quoted single_quote) quoted text o (λ own after word e s. same (sym (around_is single_quote quoted single_quote own)) refl (single first quoted own (Word word []) h s)) (alone l false text o r))
alone l _ _ _ (double first quoted meaning text o h r) =
    subst (λ z. IsAlone l first z (prepend meaning o)) (around_is double_quote quoted double_quote text)
    (alone_more l first false (around double_quote quoted double_quote) meaning text o (λ own after word e s. same (sym (around_is double_quote quoted double_quote own)) refl (double first quoted meaning own (Word word []) h s)) (alone l false text o r))
alone l _ _ _ (dollared first opening quoted meaning text o d i h r) =
    subst (λ z. IsAlone l first z (prepend meaning o)) (opened_is opening quoted text)
    (alone_more l first false (opened opening quoted) meaning text o (λ own after word e s. same (sym (opened_is opening quoted own)) refl (dollared first opening quoted meaning own (Word word []) d i h s)) (alone l false text o r))
alone l _ _ _ (trailing first) = ([], refl)
alone l _ _ _ (unclosed first text h) = ([], refl)
alone l _ _ _ (undoubled first quoted meaning h) = ([], refl)
alone l _ _ _ (unescaped first quoted meaning h) = ([], refl)
alone l _ _ _ (undollared first opening quoted meaning d i h) = ([], refl)
alone l _ _ _ (unfinished first opening quoted meaning d i h) = ([], refl)
alone l _ _ _ (unknown first opening quoted meaning text d i h n) = (dollar ∷ (opening ++ quoted), ap (λ z. dollar ∷ z) (sym (append_assoc opening quoted (backslash ∷ text))))
alone l _ _ _ (special first b text r h d) = ([], refl)
alone l _ _ _ (expands first quoted meaning b text h r x) = (double_quote ∷ quoted, refl)
alone l _ _ _ (keeps first quoted meaning b text h r x) = (double_quote ∷ (quoted ++ backslash ∷ []), ap (λ z. double_quote ∷ z) (sym (append_assoc quoted (backslash ∷ []) (b ∷ text))))
