-- Each text is read as a word or has a fault: the steps of the reader give what the rules say.
use Rattle.std.proofs.Common.{◌≡◌, ℕ, zero, suc, ◌<◌, Bool, true, false, ◌&&◌, eqb, List, [], ◌∷◌, ◌++◌, length, refl, sym, ap, ◌∙◌, subst, arith, append_assoc, append-nil, length-append, Option, None, Some, inl, inr, ◌⊎◌}
use Rattle.std.proofs.lemmas.Bool.{eqb-true, cases_Bool, true≢false, and_parts}
use Rattle.os_command_line.specs.declared.shell.language.Language.{Language}
use Rattle.os_command_line.specs.declared.shell.step.State.{State}
use Rattle.os_command_line.specs.declared.shell.step.State.TheVariants.{Start, Bare, Single, Double, Dollar}
use Rattle.os_command_line.specs.declared.shell.step.Step.TheVariants.{End}
use Rattle.os_command_line.specs.declared.shell.fault.FaultKind.TheVariants.{UnclosedSingle, UnclosedDouble, UnclosedDollar, TrailingBackslash, Special, UnknownEscape}
use Rattle.os_command_line.specs.Shell.{single_quote, double_quote, backslash, dollar, newline, is_mark, is_blank, is_history, is_special, is_special_doubled, is_escapable, begins_quote, opens_dollar, IsOpening, IsBare, HasNoQuote, IsItselfDoubled, Doubled, letter_meaning, octal_meaning, escape_meaning, BeginsNoEscape, Dollared, Outcome, prepend, Reads}
use Rattle.os_command_line.specs.Shell.IsOpening.{quote, line_joined}
use Rattle.os_command_line.specs.Shell.Outcome.{Fault}
use Rattle.os_command_line.specs.Shell.Doubled.{none, plain, escape, joined, kept}
use Rattle.os_command_line.specs.Shell.Dollared.{nothing, itself, escape_of}
use Rattle.os_command_line.specs.Shell.Reads.{ends, bare, escaped, continued, single, double, dollared, trailing, unclosed, undoubled, unescaped, undollared, unfinished, unknown, special, expands, keeps}
use Rattle.os_command_line.specs.ShellReader.{outside_step, run, outcome}
use Rattle.os_command_line.proofs.lemmas.Lists.{no_cons, one_more}
use Rattle.os_command_line.proofs.lemmas.ShellOneReading.{outside, prepend_nothing, prepend_twice, of_blank, of_mark, no_text, go, refuse, pass, pass_all, ended, go_outside, refuse_outside, stop_outside, bare_go, special_refuse, or_true, kept_refused, itself_doubled, doubled_go, kept_go, escape_go, escape_meant, no_escape, single_closed, double_closed, dollar_closed, single_opened, double_opened, dollar_opened, escaped_at, joined_at}

-- a reading of equal texts, with equal outcomes
pub same : {l : Language} {first : Bool} {a b : List ℕ} {o p : Outcome} → a ≡ b → o ≡ p → Reads l first a o → Reads l first b p
same {l} {first} {a} {b} {o} {p} e f r = subst (λ z. Reads l first z p) e (subst (Reads l first a) f r)

-- what comes next goes on from `prefix`, which means `meant`
abbrev Leads : (List ℕ → List ℕ → Type 0) → List ℕ → List ℕ → Type 0
Leads R prefix meant = (quoted word : List ℕ) → R quoted word → R (prefix ++ quoted) (meant ++ word)

-- what was read is right, where the reader is: in quotes, whatever they began with
abbrev Sound : Language → State → List ℕ → List ℕ → Outcome → Type 0
Sound l Start from text o = Reads l true text o
Sound l Bare from text o = Reads l false text o
Sound l Single from text o = (first : Bool) (quoted : List ℕ) → HasNoQuote quoted → from ≡ single_quote ∷ (quoted ++ text) → Reads l first from (prepend quoted o)
Sound l Double from text o = (first : Bool) (prefix meant : List ℕ) → Leads (Doubled l) prefix meant → from ≡ double_quote ∷ (prefix ++ text) → Reads l first from (prepend meant o)
Sound l Dollar from text o =
    l.dollar_quotes ≡ true → (first : Bool) (opening prefix meant : List ℕ) → IsOpening opening → Leads Dollared prefix meant → from ≡ dollar ∷ (opening ++ (prefix ++ text)) → Reads l first from (prepend meant o)

abbrev IsSound : Language → State → List ℕ → List ℕ → Type 0
IsSound l s from text = Sound l s from text (run l s from zero text)

-- of all texts that are shorter
abbrev AllSound : Language → ℕ → Type 0
AllSound l n = (s : State) (from text : List ℕ) → length text < n → IsSound l s from text

sound_outside : (l : Language) (first : Bool) (from text : List ℕ) → IsSound l (outside first) from text → Reads l first text (run l (outside first) from zero text)
sound_outside l true from text h = h
sound_outside l false from text h = h

-- ---- outside quotes

module _ (l : Language) (first : Bool) (from text : List ℕ) where
  at_single : AllSound l (suc (length text)) → Reads l first (single_quote ∷ text) (run l (outside first) from zero (single_quote ∷ text))
  at_single ih = same refl (prepend_nothing (run l Single (single_quote ∷ text) zero text) ∙ sym (single_opened l first from text)) (ih Single (single_quote ∷ text) text (omega arith) first [] tt refl)

  at_double : AllSound l (suc (length text)) → Reads l first (double_quote ∷ text) (run l (outside first) from zero (double_quote ∷ text))
  at_double ih = same refl (prepend_nothing (run l Double (double_quote ∷ text) zero text) ∙ sym (double_opened l first from text)) (ih Double (double_quote ∷ text) text (omega arith) first [] [] (λ quoted word r. r) refl)

  at_dollar : (opening : List ℕ) → IsOpening opening → AllSound l (suc (length (opening ++ text))) → l.dollar_quotes ≡ true → Reads l first (dollar ∷ (opening ++ text)) (run l (outside first) from zero (dollar ∷ (opening ++ text)))
  at_dollar opening i ih d =
      let here = dollar ∷ (opening ++ text) in
      same refl (prepend_nothing (run l Dollar here zero text) ∙ sym (dollar_opened l first from opening text d i)) (ih Dollar here text (omega (arith, length-append opening text)) d first opening [] [] i (λ quoted word r. r) refl)

at_backslash : (l : Language) (first : Bool) (from text : List ℕ) → AllSound l (suc (length text)) → Reads l first (backslash ∷ text) (run l (outside first) from zero (backslash ∷ text))
at_backslash l first from [] ih = same refl (sym (refuse_outside l first from backslash [] TrailingBackslash refl)) (trailing first)
at_backslash l first from (c ∷ text) ih = elim (cases_Bool (eqb c 0x0A)) [
  | inl e ↦ subst (λ x. Reads l first (backslash ∷ x ∷ text) (run l (outside first) from zero (backslash ∷ x ∷ text))) (sym (eqb-true c 0x0A e))
      (let here = backslash ∷ newline ∷ text in same refl (sym (joined_at l first from text)) (continued first text _ (sound_outside l first here text (ih (outside first) here text (omega arith)))))
  | inr e ↦ same refl (sym (escaped_at l first from c text e)) (escaped first c text _ e (ih Bare (backslash ∷ c ∷ text) text (omega arith)))
]

-- what begins dollar-single-quotes is cut off
record Opened (text : List ℕ) : Type 0 where
  opening : List ℕ
  rest : List ℕ
  parts : text ≡ opening ++ rest
  is : IsOpening opening

opened_at : (text : List ℕ) → begins_quote text ≡ true → Opened text
opened_at [] h = absurd (true≢false (sym h))
opened_at (b ∷ []) h = record { opening = single_quote ∷ []; rest = []; parts = ap (λ x. x ∷ []) (eqb-true b 0x27 h); is = quote }
opened_at (b ∷ c ∷ text) h = elim (or_true (eqb b 0x27) (eqb b 0x5C && (eqb c 0x0A && begins_quote text)) h) [
  | inl e ↦ record { opening = single_quote ∷ []; rest = c ∷ text; parts = ap (λ x. x ∷ c ∷ text) (eqb-true b 0x27 e); is = quote }
  | inr r ↦
      let p = and_parts (eqb b 0x5C) (eqb c 0x0A && begins_quote text) r in
      let q = and_parts (eqb c 0x0A) (begins_quote text) p.1 in
      let o = opened_at text q.1 in
      record {
        opening = backslash ∷ newline ∷ o.opening;
        rest = o.rest;
        parts = ap (λ x. x ∷ c ∷ text) (eqb-true b 0x5C p.0) ∙ ap (λ x. backslash ∷ x ∷ text) (eqb-true c 0x0A q.0) ∙ ap (λ z. backslash ∷ newline ∷ z) o.parts;
        is = line_joined o.opening o.is;
      }
]

at_opening : (l : Language) (first : Bool) (from : List ℕ) (b : ℕ) (text : List ℕ) → AllSound l (suc (length text)) → opens_dollar l b text ≡ true → Reads l first (b ∷ text) (run l (outside first) from zero (b ∷ text))
at_opening l first from b text ih h =
    let p = and_parts l.dollar_quotes (eqb b 0x24 && begins_quote text) h in
    let q = and_parts (eqb b 0x24) (begins_quote text) p.1 in
    let o = opened_at text q.1 in
    subst (λ x. Reads l first (x ∷ text) (run l (outside first) from zero (x ∷ text))) (sym (eqb-true b 0x24 q.0))
    (subst (λ z. Reads l first (dollar ∷ z) (run l (outside first) from zero (dollar ∷ z))) (sym o.parts) (at_dollar l first from o.rest o.opening o.is (subst (λ z. AllSound l (suc (length z))) o.parts ih) p.0))

at_bare : (l : Language) (first : Bool) (from : List ℕ) (b : ℕ) (text : List ℕ) → AllSound l (suc (length text)) → is_mark b ≡ false → is_blank b ≡ false → opens_dollar l b text ≡ false → Reads l first (b ∷ text) (run l (outside first) from zero (b ∷ text))
at_bare l first from b text ih m n d = elim (cases_Bool (l.refuses_specials && is_special first b)) [
  | inl e ↦ let p = and_parts l.refuses_specials (is_special first b) e in same refl (sym (refuse_outside l first from b text Special (special_refuse l first b text p.0 p.1 d))) (special first b text p.0 p.1 d)
  | inr e ↦ let h : IsBare l first b text = record { no_mark = m; no_blank = n; no_dollar = d; no_special = e } in
      same refl (sym (go_outside l first from b text (Some b) Bare 0 (bare_go l first b text h))) (bare first b text _ h (ih Bare (b ∷ text) text (omega arith)))
]

at_outside : (l : Language) (first : Bool) (from text : List ℕ) → AllSound l (length text) → Reads l first text (run l (outside first) from zero text)
at_outside l first from [] ih = same refl (sym (no_text l (outside first) from 0 ∙ ended first from)) (ends first [] tt)
at_outside l first from (b ∷ text) ih = elim (cases_Bool (is_mark b)) [
  | inl m ↦ of_mark (λ x. Reads l first (x ∷ text) (run l (outside first) from zero (x ∷ text))) b m (at_single l first from text ih) (at_double l first from text ih) (at_backslash l first from text ih)
  | inr m ↦ elim (cases_Bool (is_blank b)) [
    | inl n ↦ same refl (sym (stop_outside l first from b text (of_blank (λ x. outside_step l (outside first) x text ≡ End) b n refl refl refl))) (ends first (b ∷ text) n)
    | inr n ↦ elim (cases_Bool (opens_dollar l b text)) [ inl d ↦ at_opening l first from b text ih d | inr d ↦ at_bare l first from b text ih m n d ]
  ]
]

-- ---- in quotes

at_in_single : (l : Language) (from text : List ℕ) → AllSound l (length text) → IsSound l Single from text
at_in_single l from [] ih first quoted h e =
    let f : single_quote ∷ quoted ≡ from = ap (λ z. single_quote ∷ z) (sym (append-nil quoted)) ∙ sym e in
    same f (ap (Fault UnclosedSingle) f ∙ sym (ap (prepend quoted) (no_text l Single from 0))) (unclosed first quoted h)
at_in_single l from (b ∷ text) ih first quoted h e = elim (cases_Bool (eqb b 0x27)) [
  | inl q ↦ let f = eqb-true b 0x27 q in
      same (ap (λ x. single_quote ∷ (quoted ++ x ∷ text)) (sym f) ∙ sym e) (ap (prepend quoted) (sym (single_closed l from text) ∙ ap (λ x. run l Single from zero (x ∷ text)) (sym f)))
      (single first quoted text (run l Bare from zero text) h (ih Bare from text (omega arith)))
  | inr q ↦ let more = ih Single from text (omega arith) first (quoted ++ b ∷ []) (one_more (λ x. eqb x single_quote ≡ false) quoted b h q) (e ∙ ap (λ z. single_quote ∷ z) (sym (append_assoc quoted (b ∷ []) text))) in
      same refl (sym (prepend_twice quoted (b ∷ []) (run l Single from zero text)) ∙ ap (prepend quoted) (sym (go l Single from b text (Some b) Single 0 (rw q refl)))) more
]

-- the bytes that are read next lead on, too
module _ (R : List ℕ → List ℕ → Type 0) (related : (a b x y : List ℕ) → a ≡ b → x ≡ y → R a x → R b y) where
  leads_on : (prefix meant taken added : List ℕ) → Leads R prefix meant → Leads R taken added → Leads R (prefix ++ taken) (meant ++ added)
  leads_on prefix meant taken added p q quoted word r = related _ _ _ _ (sym (append_assoc prefix taken quoted)) (sym (append_assoc meant added word)) (p (taken ++ quoted) (added ++ word) (q quoted word r))

  led : (prefix meant : List ℕ) → Leads R prefix meant → R [] [] → R prefix meant
  led prefix meant p r = related _ _ _ _ (append-nil prefix) (append-nil meant) (p [] [] r)

same_doubled : (l : Language) (a b x y : List ℕ) → a ≡ b → x ≡ y → Doubled l a x → Doubled l b y
same_doubled l a b x y e f r = subst (λ z. Doubled l z y) e (subst (Doubled l a) f r)

same_dollared : (a b x y : List ℕ) → a ≡ b → x ≡ y → Dollared a x → Dollared b y
same_dollared a b x y e f r = subst (λ z. Dollared z y) e (subst (Dollared a) f r)

module _ (l : Language) (from : List ℕ) where
  double_on : (text taken added rest : List ℕ) → text ≡ taken ++ rest → Leads (Doubled l) taken added → run l Double from zero text ≡ prepend added (run l Double from zero rest) → IsSound l Double from rest → IsSound l Double from text
  double_on text taken added rest t q e h first prefix meant p f =
      same refl (sym (prepend_twice meant added (run l Double from zero rest)) ∙ ap (prepend meant) (sym e))
      (h first (prefix ++ taken) (meant ++ added) (leads_on (Doubled l) (same_doubled l) prefix meant taken added p q) (f ∙ ap (λ z. double_quote ∷ (prefix ++ z)) t ∙ ap (λ z. double_quote ∷ z) (sym (append_assoc prefix taken rest))))

  double_marked : (text : List ℕ) → IsSound l Bare from text → IsSound l Double from (double_quote ∷ text)
  double_marked text h first prefix meant p f =
      same (sym f) (ap (prepend meant) (sym (double_closed l from text))) (double first prefix meant text (run l Bare from zero text) (led (Doubled l) (same_doubled l) prefix meant p none) h)

  double_backslash : (text : List ℕ) → AllSound l (suc (length text)) → IsSound l Double from (backslash ∷ text)
  double_backslash [] ih = λ first prefix meant p f.
      same (sym f) (ap (Fault UnclosedDouble) (sym f) ∙ sym (ap (prepend meant) (go l Double from backslash [] (Some backslash) Double 0 refl ∙ ap (prepend (backslash ∷ [])) (no_text l Double from 0)))) (unescaped first prefix meant (led (Doubled l) (same_doubled l) prefix meant p none))
  double_backslash (c ∷ text) ih = elim (cases_Bool (is_escapable c)) [
    | inl e ↦ double_on (backslash ∷ c ∷ text) (backslash ∷ c ∷ []) (c ∷ []) text refl (λ quoted word r. escape c quoted word e r)
        (go l Double from backslash (c ∷ text) (Some c) Double 1 (escape_go l c text e) ∙ ap (prepend (c ∷ [])) (pass l Double from c text 0)) (ih Double from text (omega arith))
    | inr e ↦ elim (cases_Bool (eqb c 0x0A)) [
      | inl n ↦ subst (λ x. IsSound l Double from (backslash ∷ x ∷ text)) (sym (eqb-true c 0x0A n))
          (double_on (backslash ∷ newline ∷ text) (backslash ∷ newline ∷ []) [] text refl (λ quoted word r. joined quoted word r)
          (go l Double from backslash (newline ∷ text) None Double 1 refl ∙ ap (prepend []) (pass l Double from newline text 0)) (ih Double from text (omega arith)))
      | inr n ↦ elim (cases_Bool (l.refuses_specials && is_history c)) [
        | inl k ↦ let x = and_parts l.refuses_specials (is_history c) k in
            λ first prefix meant p f. same (sym f) (sym (ap (prepend meant) (kept_refused l from c text x.0 x.1))) (keeps first prefix meant c text (led (Doubled l) (same_doubled l) prefix meant p none) x.0 x.1)
        | inr k ↦ let i = itself_doubled l c e k in
            double_on (backslash ∷ c ∷ text) (backslash ∷ c ∷ []) (backslash ∷ c ∷ []) text refl (λ quoted word r. kept c quoted (c ∷ word) e n (plain c quoted word i r))
            (go l Double from backslash (c ∷ text) (Some backslash) Double 0 (kept_go l c text e n) ∙ ap (prepend (backslash ∷ [])) (go l Double from c text (Some c) Double 0 (doubled_go l c text i)) ∙ prepend_twice (backslash ∷ []) (c ∷ []) (run l Double from zero text)) (ih Double from text (omega arith))
      ]
    ]
  ]

  double_other : (b : ℕ) (text : List ℕ) → IsSound l Double from text → eqb b 0x22 ≡ false → eqb b 0x5C ≡ false → IsSound l Double from (b ∷ text)
  double_other b text h q s = elim (cases_Bool (l.refuses_specials && is_special_doubled b)) [
    | inl e ↦ let x = and_parts l.refuses_specials (is_special_doubled b) e in
        λ first prefix meant p f. same (sym f) (sym (ap (prepend meant) (refuse l Double from b text Special (rw (q, s, e) refl)))) (expands first prefix meant b text (led (Doubled l) (same_doubled l) prefix meant p none) x.0 x.1)
    | inr e ↦ let i : IsItselfDoubled l b = record { no_quote = q; no_backslash = s; no_special = e } in
        double_on (b ∷ text) (b ∷ []) (b ∷ []) text refl (λ quoted word r. plain b quoted word i r) (go l Double from b text (Some b) Double 0 (doubled_go l b text i)) h
  ]

  at_in_double : (text : List ℕ) → AllSound l (length text) → IsSound l Double from text
  at_in_double [] ih = λ first prefix meant p f.
      let g : double_quote ∷ prefix ≡ from = ap (λ z. double_quote ∷ z) (sym (append-nil prefix)) ∙ sym f in
      same g (ap (Fault UnclosedDouble) g ∙ sym (ap (prepend meant) (no_text l Double from 0))) (undoubled first prefix meant (led (Doubled l) (same_doubled l) prefix meant p none))
  at_in_double (b ∷ text) ih = elim (cases_Bool (eqb b 0x22)) [
    | inl q ↦ subst (λ x. IsSound l Double from (x ∷ text)) (sym (eqb-true b 0x22 q)) (double_marked text (ih Bare from text (omega arith)))
    | inr q ↦ elim (cases_Bool (eqb b 0x5C)) [
      | inl s ↦ subst (λ x. IsSound l Double from (x ∷ text)) (sym (eqb-true b 0x5C s)) (double_backslash text ih)
      | inr s ↦ double_other b text (ih Double from text (omega arith)) q s
    ]
  ]

-- ---- dollar-single-quotes

-- letters that mean a byte, with which a text begins
record BeginsEscape (text : List ℕ) : Type 0 where
  letters : List ℕ
  byte : ℕ
  after : List ℕ
  parts : text ≡ letters ++ after
  means : escape_meaning letters ≡ Some byte

cases_option : (o : Option ℕ) → ((b : ℕ) × (o ≡ Some b)) ⊎ (o ≡ None)
cases_option None = inr refl
cases_option (Some b) = inl (b, refl)

no_escape_of : (c : ℕ) (text : List ℕ) → letter_meaning c ≡ None → ((d e : ℕ) (after : List ℕ) → text ≡ d ∷ e ∷ after → octal_meaning c d e ≡ None) → BeginsNoEscape (c ∷ text)
no_escape_of c text h three = record { some = no_cons; none = none_of }
  where
    none_of : (letters after : List ℕ) → c ∷ text ≡ letters ++ after → escape_meaning letters ≡ None
    none_of [] after e = refl
    none_of (x ∷ []) after e = let f : c ≡ x = cc in subst (λ z. letter_meaning z ≡ None) f h
    none_of (x ∷ y ∷ []) after e = refl
    none_of (x ∷ y ∷ z ∷ []) after e = let f : c ≡ x = cc in let g : text ≡ y ∷ z ∷ after = cc in subst (λ w. octal_meaning w y z ≡ None) f (three y z after g)
    none_of (x ∷ y ∷ z ∷ w ∷ more) after e = refl

escape_cases : (c : ℕ) (text : List ℕ) → BeginsEscape (c ∷ text) ⊎ BeginsNoEscape (c ∷ text)
escape_cases c text = elim (cases_option (letter_meaning c)) [
  | inl s ↦ inl (record { letters = c ∷ []; byte = s.0; after = text; parts = refl; means = s.1 })
  | inr n ↦ digits text n
]
  where
    digits : (text : List ℕ) → letter_meaning c ≡ None → BeginsEscape (c ∷ text) ⊎ BeginsNoEscape (c ∷ text)
    digits [] n = inr (no_escape_of c [] n (λ d e after f. absurd (no f)))
      where
        no : {d e : ℕ} {after : List ℕ} → [] ≡ d ∷ e ∷ after → ⊥
        no f = cc
    digits (d ∷ []) n = inr (no_escape_of c (d ∷ []) n (λ x e after f. absurd (no f)))
      where
        no : {x e : ℕ} {after : List ℕ} → d ∷ [] ≡ x ∷ e ∷ after → ⊥
        no f = cc
    digits (d ∷ e ∷ text) n = elim (cases_option (octal_meaning c d e)) [
      | inl s ↦ inl (record { letters = c ∷ d ∷ e ∷ []; byte = s.0; after = text; parts = refl; means = s.1 })
      | inr m ↦ inr (no_escape_of c (d ∷ e ∷ text) n (λ x y after f. let g : d ≡ x = cc in let k : e ≡ y = cc in subst (λ z. octal_meaning c x z ≡ None) k (subst (λ z. octal_meaning c z e ≡ None) g m)))
    ]

module _ (l : Language) (from : List ℕ) where
  dollar_on : (text taken added rest : List ℕ) → text ≡ taken ++ rest → Leads Dollared taken added → run l Dollar from zero text ≡ prepend added (run l Dollar from zero rest) → IsSound l Dollar from rest → IsSound l Dollar from text
  dollar_on text taken added rest t q e h d first opening prefix meant i p f =
      same refl (sym (prepend_twice meant added (run l Dollar from zero rest)) ∙ ap (prepend meant) (sym e))
      (h d first opening (prefix ++ taken) (meant ++ added) i (leads_on Dollared same_dollared prefix meant taken added p q) (f ∙ ap (λ z. dollar ∷ (opening ++ (prefix ++ z))) t ∙ ap (λ z. dollar ∷ (opening ++ z)) (sym (append_assoc prefix taken rest))))

  dollar_marked : (text : List ℕ) → IsSound l Bare from text → IsSound l Dollar from (single_quote ∷ text)
  dollar_marked text h d first opening prefix meant i p f =
      same (sym f) (ap (prepend meant) (sym (dollar_closed l from text))) (dollared first opening prefix meant text (run l Bare from zero text) d i (led Dollared same_dollared prefix meant p nothing) h)

  dollar_backslash : (text : List ℕ) → AllSound l (suc (length text)) → IsSound l Dollar from (backslash ∷ text)
  dollar_backslash [] ih = λ d first opening prefix meant i p f.
      same (sym f) (ap (Fault UnclosedDollar) (sym f) ∙ sym (ap (prepend meant) (go l Dollar from backslash [] (Some backslash) Dollar 0 refl ∙ ap (prepend (backslash ∷ [])) (no_text l Dollar from 0)))) (unfinished first opening prefix meant d i (led Dollared same_dollared prefix meant p nothing))
  dollar_backslash (c ∷ text) ih = elim (escape_cases c text) [
    | inl x ↦ dollar_on (backslash ∷ c ∷ text) (backslash ∷ x.letters) (x.byte ∷ []) x.after (ap (λ z. backslash ∷ z) x.parts) (λ quoted word r. escape_of x.letters x.byte quoted word x.means r)
        (ap (λ z. run l Dollar from zero (backslash ∷ z)) x.parts ∙ go l Dollar from backslash (x.letters ++ x.after) (Some x.byte) Dollar (length x.letters) (escape_meant x.letters x.byte x.after x.means) ∙ ap (prepend (x.byte ∷ [])) (pass_all l Dollar from x.letters x.after))
        (ih Dollar from x.after (omega (arith, ap length x.parts, length-append x.letters x.after)))
    | inr n ↦ λ d first opening prefix meant i p f. same (sym f) (sym (ap (prepend meant) (refuse l Dollar from backslash (c ∷ text) UnknownEscape (no_escape (c ∷ text) n)))) (unknown first opening prefix meant (c ∷ text) d i (led Dollared same_dollared prefix meant p nothing) n)
  ]

  at_in_dollar : (text : List ℕ) → AllSound l (length text) → IsSound l Dollar from text
  at_in_dollar [] ih = λ d first opening prefix meant i p f.
      let g : dollar ∷ (opening ++ prefix) ≡ from = ap (λ z. dollar ∷ (opening ++ z)) (sym (append-nil prefix)) ∙ sym f in
      same g (ap (Fault UnclosedDollar) g ∙ sym (ap (prepend meant) (no_text l Dollar from 0))) (undollared first opening prefix meant d i (led Dollared same_dollared prefix meant p nothing))
  at_in_dollar (b ∷ text) ih = elim (cases_Bool (eqb b 0x27)) [
    | inl q ↦ subst (λ x. IsSound l Dollar from (x ∷ text)) (sym (eqb-true b 0x27 q)) (dollar_marked text (ih Bare from text (omega arith)))
    | inr q ↦ elim (cases_Bool (eqb b 0x5C)) [
      | inl s ↦ subst (λ x. IsSound l Dollar from (x ∷ text)) (sym (eqb-true b 0x5C s)) (dollar_backslash text ih)
      | inr s ↦ dollar_on (b ∷ text) (b ∷ []) (b ∷ []) text refl (λ quoted word r. itself b quoted word q s r) (go l Dollar from b text (Some b) Dollar 0 (rw (q, s) refl)) (ih Dollar from text (omega arith))
    ]
  ]

sound_at : (l : Language) (s : State) (from text : List ℕ) → AllSound l (length text) → IsSound l s from text
sound_at l Start from text ih = at_outside l true from text ih
sound_at l Bare from text ih = at_outside l false from text ih
sound_at l Single from text ih = at_in_single l from text ih
sound_at l Double from text ih = at_in_double l from text ih
sound_at l Dollar from text ih = at_in_dollar l from text ih

sound : (l : Language) (n : ℕ) → AllSound l n
sound l zero s from text h = absurd (omega arith)
sound l (suc n) s from text h = sound_at l s from text (λ t other shorter k. sound l n t other shorter (omega (arith, h, k)))

-- each text is read so
pub some_reading : (l : Language) (text : List ℕ) → Reads l true text (outcome l text)
some_reading l text = sound l (suc (length text)) Start [] text (omega arith)
