-- Steps of the reader by bytes.
use Rattle.std.proofs.Common.{◌≡◌, ℕ, zero, suc, ◌≤◌, Bool, true, false, cond, ◌&&◌, eqb, List, [], ◌∷◌, ◌++◌, drop, length, length-append, refl, sym, ap, ◌∙◌, subst, arith, Option, None, Some, inl, inr}
use Rattle.std.specs.Prelude.{option_to_list}
use Rattle.std.proofs.lemmas.Bool.{cases_Bool}
use Rattle.os_command_line.specs.declared.shell.language.Language.{Language}
use Rattle.os_command_line.specs.declared.shell.step.State.{State}
use Rattle.os_command_line.specs.declared.shell.step.State.TheVariants.{Start, Bare, Single, Double, Dollar}
use Rattle.os_command_line.specs.declared.shell.step.Step.{Step}
use Rattle.os_command_line.specs.declared.shell.step.Step.TheVariants.{End, Go, Refuse}
use Rattle.os_command_line.specs.declared.shell.fault.FaultKind.{FaultKind}
use Rattle.os_command_line.specs.Shell.{single_quote, double_quote, backslash, newline, is_blank, is_special, is_special_doubled, is_escapable, opens_dollar, letter_meaning, octal_meaning, prepend}
use Rattle.os_command_line.specs.Shell.Outcome.{Word, Fault}
use Rattle.os_command_line.specs.ShellReader.{is_start, opening_len, escape_step, bare_step, outside_step, double_escape_step, meaning_step, octal_step, letter_step, dollar_escape_step, step, is_outside, at_end, opened, run, outcome, passed}
use Rattle.os_command_line.proofs.lemmas.ShellOneReading.{prepend_nothing, prepend_twice, no_text, go, refuse, stop}
use Rattle.os_command_line.proofs.lemmas.ShellMeaning.{cut_word}

-- ---- a step passes over no more bytes than there are

record IsWithin (n : ℕ) (z : Step) : Type 0 where
  at_most : passed z ≤ n

ends_within : {n : ℕ} → IsWithin n End
ends_within {n} = record { at_most = omega arith }

refuses_within : {n : ℕ} {kind : FaultKind} → IsWithin n (Refuse kind)
refuses_within {n} {kind} = record { at_most = omega arith }

goes_within : {n : ℕ} {out : Option ℕ} {next : State} {k : ℕ} → k ≤ n → IsWithin n (Go out next k)
goes_within {n} {out} {next} {k} h = record { at_most = h }

if_within : {n : ℕ} {x y : Step} (b : Bool) → IsWithin n x → IsWithin n y → IsWithin n (cond b x y)
if_within {n} {x} {y} true h k = h
if_within {n} {x} {y} false h k = k

none_passed : {n : ℕ} → 0 ≤ n
none_passed {n} = omega arith

one_passed : {n : ℕ} → 1 ≤ suc n
one_passed {n} = omega arith

three_passed : {n : ℕ} → 3 ≤ suc (suc (suc n))
three_passed {n} = omega arith

escape_within : (s : State) (text : List ℕ) → IsWithin (length text) (escape_step s text)
escape_within s [] = refuses_within
escape_within s (c ∷ text) = if_within (eqb c newline) (goes_within one_passed) (goes_within one_passed)

opening_within : (text : List ℕ) → opening_len text ≤ length text
opening_within [] = omega arith
opening_within (b ∷ []) = omega arith
opening_within (b ∷ c ∷ text) = let h = opening_within text in elim (cases_Bool (eqb b backslash)) [ inl e ↦ rw e (omega (arith, h)) | inr e ↦ rw e (omega arith) ]

bare_within : (l : Language) (s : State) (b : ℕ) (text : List ℕ) → IsWithin (length text) (bare_step l s b text)
bare_within l s b text = if_within (opens_dollar l b text) (goes_within (opening_within text)) (if_within (l.refuses_specials && is_special (is_start s) b) refuses_within (goes_within none_passed))

outside_within : (l : Language) (s : State) (b : ℕ) (text : List ℕ) → IsWithin (length text) (outside_step l s b text)
outside_within l s b text =
    if_within (eqb b single_quote) (goes_within none_passed) (if_within (eqb b double_quote) (goes_within none_passed) (if_within (eqb b backslash) (escape_within s text) (if_within (is_blank b) ends_within (bare_within l s b text))))

double_escape_within : (text : List ℕ) → IsWithin (length text) (double_escape_step text)
double_escape_within [] = goes_within none_passed
double_escape_within (c ∷ text) = if_within (is_escapable c) (goes_within one_passed) (if_within (eqb c newline) (goes_within one_passed) (goes_within none_passed))

meaning_within : (n : ℕ) (o : Option ℕ) → IsWithin (suc (suc (suc n))) (meaning_step 3 o)
meaning_within n None = refuses_within
meaning_within n (Some b) = goes_within three_passed

octal_within : (c : ℕ) (text : List ℕ) → IsWithin (suc (length text)) (octal_step c text)
octal_within c [] = refuses_within
octal_within c (d ∷ []) = refuses_within
octal_within c (d ∷ e ∷ text) = meaning_within (length text) (octal_meaning c d e)

letter_within : (c : ℕ) (text : List ℕ) (o : Option ℕ) → IsWithin (suc (length text)) (letter_step c text o)
letter_within c text None = octal_within c text
letter_within c text (Some b) = goes_within one_passed

dollar_escape_within : (text : List ℕ) → IsWithin (length text) (dollar_escape_step text)
dollar_escape_within [] = goes_within none_passed
dollar_escape_within (c ∷ text) = letter_within c text (letter_meaning c)

step_within : (l : Language) (s : State) (b : ℕ) (text : List ℕ) → IsWithin (length text) (step l s b text)
step_within l Start b text = outside_within l Start b text
step_within l Bare b text = outside_within l Bare b text
step_within l Single b text = if_within (eqb b single_quote) (goes_within none_passed) (goes_within none_passed)
step_within l Double b text =
    if_within (eqb b double_quote) (goes_within none_passed) (if_within (eqb b backslash) (double_escape_within text) (if_within (l.refuses_specials && is_special_doubled b) refuses_within (goes_within none_passed)))
step_within l Dollar b text = if_within (eqb b single_quote) (goes_within none_passed) (if_within (eqb b backslash) (dollar_escape_within text) (goes_within none_passed))

pub go_within : (l : Language) (s : State) (b : ℕ) (text : List ℕ) (z : Step) (out : Option ℕ) (next : State) (k : ℕ) → z ≡ step l s b text → z ≡ Go out next k → k ≤ length text
go_within l s b text z out next k e f = (subst (IsWithin (length text)) (sym e ∙ f) (step_within l s b text)).at_most

-- ---- what was read so far

run_drop : (l : Language) (s : State) (from : List ℕ) (k : ℕ) (text : List ℕ) → run l s from k text ≡ run l s from zero (drop k text)
unfolding run
run_drop l s from zero text = refl
run_drop l s from (suc k) [] = refl
run_drop l s from (suc k) (b ∷ text) = run_drop l s from k text

-- the word goes on from here, after these bytes
abbrev pub LeadsOn : Language → List ℕ → State → List ℕ → List ℕ → Type 0
LeadsOn l text s from rest = (added : List ℕ) × (outcome l text ≡ prepend added (run l s from zero rest))

pub nothing_yet : (l : Language) (text : List ℕ) → (added : List ℕ) × (outcome l text ≡ prepend added (run l Start text zero text))
nothing_yet l text = ([], any text ∙ sym (prepend_nothing (run l Start text zero text)))
  where
    any : (t : List ℕ) → run l Start [] zero t ≡ run l Start text zero t
    any [] = no_text l Start [] 0 ∙ sym (no_text l Start text 0)
    any (b ∷ t) = first (step l Start b t) refl
      where
        first : (z : Step) → step l Start b t ≡ z → run l Start [] zero (b ∷ t) ≡ run l Start text zero (b ∷ t)
        first End e = stop l Start [] b t e ∙ sym (stop l Start text b t e)
        first (Refuse kind) e = refuse l Start [] b t kind e ∙ sym (refuse l Start text b t kind e)
        first (Go out next n) e = go l Start [] b t out next n e ∙ sym (go l Start text b t out next n e)

module _ (l : Language) (text : List ℕ) (s : State) (from rest : List ℕ) (so_far : LeadsOn l text s from rest) (b : ℕ) (after : List ℕ) (r : rest ≡ b ∷ after) where
  pub one_more : (out : Option ℕ) (next : State) (n : ℕ) (left here : List ℕ) → step l s b after ≡ Go out next n → left ≡ drop n after → here ≡ opened s from rest → LeadsOn l text next here left
  one_more out next n left here e d h =
      let o = run l next here zero left in
      let more : run l s from zero rest ≡ prepend (option_to_list out) o =
      ap (run l s from zero) r ∙ go l s from b after out next n e ∙ ap (prepend (option_to_list out)) (run_drop l next (opened s from (b ∷ after)) n after ∙ ap (λ x. run l next x zero (drop n after)) (ap (opened s from) (sym r) ∙ sym h) ∙ ap (run l next here zero) (sym d)) in
      (so_far.0 ++ option_to_list out, so_far.1 ∙ ap (prepend so_far.0) more ∙ prepend_twice so_far.0 (option_to_list out) o)

  pub stopped : step l s b after ≡ End → (word : List ℕ) × (outcome l text ≡ Word word rest)
  stopped e = (so_far.0 ++ [], so_far.1 ∙ ap (prepend so_far.0) (ap (run l s from zero) r ∙ stop l s from b after e) ∙ ap (Word (so_far.0 ++ [])) (sym r))

  pub refused : (kind : FaultKind) → step l s b after ≡ Refuse kind → outcome l text ≡ Fault kind rest
  refused kind e = so_far.1 ∙ ap (prepend so_far.0) (ap (run l s from zero) r ∙ refuse l s from b after kind e) ∙ ap (Fault kind) (sym r)

-- at the end
pub ended_at : (l : Language) (text : List ℕ) (s : State) (from rest : List ℕ) → LeadsOn l text s from rest → rest ≡ [] → (added : List ℕ) × (outcome l text ≡ prepend added (at_end s from))
ended_at l text s from rest so_far e = (so_far.0, so_far.1 ∙ ap (prepend so_far.0) (ap (run l s from zero) e ∙ no_text l s from 0))

pub outside_opened : (s : State) (from rest : List ℕ) → is_outside s ≡ true → rest ≡ opened s from rest
outside_opened s from rest e = rw e refl

pub inside_opened : (s : State) (from rest : List ℕ) → is_outside s ≡ false → from ≡ opened s from rest
inside_opened s from rest e = rw e refl

module _ (l : Language) (text : List ℕ) (s : State) (from rest : List ℕ) (so_far : LeadsOn l text s from rest) (e : rest ≡ []) where
  pub word_ends : at_end s from ≡ Word [] [] → (word : List ℕ) × (outcome l text ≡ Word word rest)
  word_ends w = let a = ended_at l text s from rest so_far e in (a.0 ++ [], a.1 ∙ ap (prepend a.0) w ∙ ap (Word (a.0 ++ [])) (sym e))

  pub quote_open : (kind : FaultKind) → at_end s from ≡ Fault kind from → outcome l text ≡ Fault kind from
  quote_open kind w = let a = ended_at l text s from rest so_far e in a.1 ∙ ap (prepend a.0) w

-- ---- the text of a word, cut off

pub word_within : (l : Language) (text after : List ℕ) → (word : List ℕ) × (outcome l text ≡ Word word after) → length after ≤ length text
word_within l text after w = let c = cut_word l text w.0 after w.1 in omega (arith, ap length c.joined, length-append c.own after)
