-- What is meant by a text that is one word, step by step.
use Rattle.std.proofs.Common.{◌≡◌, ◌≢◌, ℕ, zero, suc, ◌≤◌, Bool, true, false, List, [], ◌∷◌, ◌++◌, drop, length, refl, sym, ap, ◌∙◌, subst, arith, length-append, Option, None, Some}
use Rattle.std.specs.Prelude.{option_to_list}
use Rattle.std.proofs.lemmas.Bool.{true≢false}
use Rattle.os_command_line.specs.declared.shell.language.Language.{Language}
use Rattle.os_command_line.specs.declared.shell.step.State.{State}
use Rattle.os_command_line.specs.declared.shell.step.State.TheVariants.{Start, Bare, Single, Double, Dollar}
use Rattle.os_command_line.specs.declared.shell.step.Step.{Step}
use Rattle.os_command_line.specs.declared.shell.step.Step.TheVariants.{End, Go, Refuse}
use Rattle.os_command_line.specs.declared.shell.fault.FaultKind.{FaultKind}
use Rattle.os_command_line.specs.Shell.{Outcome, prepend, Ends}
use Rattle.os_command_line.specs.Shell.Outcome.{Word, Fault}
use Rattle.os_command_line.specs.ShellReader.{at_end, opened, step, next_state, passed, after_step, with_step, run, meant, outcome}
use Rattle.os_command_line.proofs.lemmas.ShellOneReading.{complete, no_text, pass}
use Rattle.os_command_line.proofs.lemmas.ShellEachLine.{some_reading}
use Rattle.os_command_line.proofs.lemmas.Lists.{no_cons}
use Rattle.os_command_line.proofs.lemmas.ShellOwnText.{IsAlone, alone}

meant_none : (l : Language) (s : State) (k : ℕ) → meant l s k [] ≡ []
unfolding meant
meant_none l s zero = refl
meant_none l s (suc k) = refl

meant_pass : (l : Language) (s : State) (k b : ℕ) (text : List ℕ) → meant l s (suc k) (b ∷ text) ≡ meant l s k text
unfolding meant
meant_pass l s k b text = refl

pub meant_step : (l : Language) (s : State) (b : ℕ) (text : List ℕ) → meant l s zero (b ∷ text) ≡ with_step (step l s b text) (meant l (next_state s (step l s b text)) (passed (step l s b text)) text)
unfolding meant
meant_step l s b text = refl

run_step : (l : Language) (s : State) (from : List ℕ) (b : ℕ) (text : List ℕ)
    → run l s from zero (b ∷ text) ≡ after_step (b ∷ text) (step l s b text) (run l (next_state s (step l s b text)) (opened s from (b ∷ text)) (passed (step l s b text)) text)
unfolding run
run_step l s from b text = refl

abbrev word_of : Outcome → List ℕ
word_of (Word word after) = word
word_of (Fault kind left) = []

abbrev after_of : Outcome → List ℕ
after_of (Word word after) = after
after_of (Fault kind left) = left

abbrev is_word : Outcome → Bool
is_word (Word word after) = true
is_word (Fault kind left) = false

no_fault : (kind : FaultKind) (left word after : List ℕ) → Fault kind left ≡ Word word after → ⊥
no_fault kind left word after e = true≢false (sym (ap is_word e))

end_word : (s : State) (from word : List ℕ) → at_end s from ≡ Word word [] → [] ≡ word
end_word Start from word e = ap word_of e
end_word Bare from word e = ap word_of e
end_word Single from word e = absurd (no_fault _ _ _ _ e)
end_word Double from word e = absurd (no_fault _ _ _ _ e)
end_word Dollar from word e = absurd (no_fault _ _ _ _ e)

prepended : (added : List ℕ) (o : Outcome) (word : List ℕ) → prepend added o ≡ Word word [] → (rest : List ℕ) × (o ≡ Word rest []) × (added ++ rest ≡ word)
prepended added (Word rest after) word e = (rest, ap (Word rest) (ap after_of e), ap word_of e)
prepended added (Fault kind left) word e = absurd (no_fault _ _ _ _ e)

-- a step, and the rest of the text
step_meant : (here more text : List ℕ) (z : Step) (o : Outcome) → ((rest : List ℕ) → o ≡ Word rest [] → more ≡ rest) → here ≢ [] → (word : List ℕ) → after_step here z o ≡ Word word [] → with_step z more ≡ word
step_meant here more text End o h n word e = absurd (n (ap after_of e))
step_meant here more text (Refuse kind) o h n word e = absurd (no_fault _ _ _ _ e)
step_meant here more text (Go out next k) o h n word e =
    let p = prepended (option_to_list out) o word e in
    ap (λ z. option_to_list out ++ z) (h p.0 p.1) ∙ p.2

pub meant_is : (l : Language) (s : State) (from : List ℕ) (k : ℕ) (text word : List ℕ) → run l s from k text ≡ Word word [] → meant l s k text ≡ word
meant_is l s from k [] word e = meant_none l s k ∙ end_word s from word (sym (no_text l s from k) ∙ e)
meant_is l s from (suc k) (b ∷ text) word e = meant_pass l s k b text ∙ meant_is l s from k text word (sym (pass l s from b text k) ∙ e)
meant_is l s from zero (b ∷ text) word e =
    let z = step l s b text in
    meant_step l s b text ∙ step_meant (b ∷ text) _ text z _ (λ rest f. meant_is l (next_state s z) (opened s from (b ∷ text)) (passed z) text rest f) no_cons word (sym (run_step l s from b text) ∙ e)

pub meant_drop : (l : Language) (s : State) (k : ℕ) (text : List ℕ) → meant l s k text ≡ meant l s zero (drop k text)
meant_drop l s zero text = refl
meant_drop l s (suc k) [] = meant_none l s (suc k) ∙ sym (meant_none l s zero)
meant_drop l s (suc k) (b ∷ text) = meant_pass l s k b text ∙ meant_drop l s k text

pub meant_end : (l : Language) (s : State) (text : List ℕ) → text ≡ [] → meant l s zero text ≡ []
meant_end l s text e = ap (meant l s zero) e ∙ meant_none l s zero

-- a step of a word's own text
module _ (l : Language) (s : State) (rest : List ℕ) (b : ℕ) (after : List ℕ) (r : rest ≡ b ∷ after) where
  pub meant_go : (out : Option ℕ) (next : State) (n : ℕ) (left : List ℕ) → step l s b after ≡ Go out next n → left ≡ drop n after → meant l s zero rest ≡ option_to_list out ++ meant l next zero left
  meant_go out next n left e d =
      ap (meant l s zero) r
      ∙ meant_step l s b after
      ∙ ap (λ z. with_step z (meant l (next_state s z) (passed z) after)) e
      ∙ ap (λ z. option_to_list out ++ z) (meant_drop l next n after ∙ ap (meant l next zero) (sym d))

  pub meant_stop : step l s b after ≡ End → meant l s zero rest ≡ []
  meant_stop e = ap (meant l s zero) r ∙ meant_step l s b after ∙ ap (λ z. with_step z (meant l (next_state s z) (passed z) after)) e

  pub meant_refuse : (kind : FaultKind) → step l s b after ≡ Refuse kind → meant l s zero rest ≡ []
  meant_refuse kind e = ap (meant l s zero) r ∙ meant_step l s b after ∙ ap (λ z. with_step z (meant l (next_state s z) (passed z) after)) e

-- a word has no more bytes than its text
pub meant_short : (l : Language) (s : State) (k : ℕ) (text : List ℕ) → length (meant l s k text) ≤ length text
meant_short l s k [] = omega (arith, ap length (meant_none l s k))
meant_short l s (suc k) (b ∷ text) = omega (arith, ap length (meant_pass l s k b text), meant_short l s k text)
meant_short l s zero (b ∷ text) =
    let z = step l s b text in
    omega (arith, ap length (meant_step l s b text), one_more z (meant l (next_state s z) (passed z) text) (length text) (meant_short l (next_state s z) (passed z) text))
  where
    one_more : (z : Step) (more : List ℕ) (n : ℕ) → length more ≤ n → length (with_step z more) ≤ suc n
    one_more End more n h = omega arith
    one_more (Refuse kind) more n h = omega arith
    one_more (Go None next k) more n h = omega (arith, h)
    one_more (Go (Some b) next k) more n h = omega (arith, h)

-- a text that is read as a word up to here is cut there
pub record IsCutWord (l : Language) (text word after : List ℕ) : Type 0 where
  pub own : List ℕ
  pub joined : text ≡ own ++ after
  pub means : meant l Start zero own ≡ word
  pub ends : Ends after

pub cut_word : (l : Language) (text word after : List ℕ) → outcome l text ≡ Word word after → IsCutWord l text word after
cut_word l text word after e =
    let a = subst (IsAlone l true text) e (alone l true text (outcome l text) (some_reading l text)) in
    record { own = a.0; joined = a.1; means = meant_is l Start [] zero a.0 word (complete l true a.0 (Word word []) [] a.2); ends = a.3 }

-- from a fault on there is some of the text
pub fault_within : (l : Language) (text : List ℕ) (kind : FaultKind) (left : List ℕ) → outcome l text ≡ Fault kind left → length left ≤ length text
fault_within l text kind left e =
    let a = subst (IsAlone l true text) e (alone l true text (outcome l text) (some_reading l text)) in
    omega (arith, ap length a.1, length-append a.0 left)
