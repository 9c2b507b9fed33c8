-- Words each byte of which means itself or that are one text in single quotes, and names that need no quotes.
use Rattle.std.proofs.Common.{◌≡◌, ◌≢◌, ℕ, zero, ◌<◌, ◌≤◌, Bool, true, false, not, ◌||◌, ◌&&◌, eqb, List, [], ◌∷◌, ◌++◌, length, refl, sym, ap, ◌∙◌, subst, arith, append_assoc, append-nil, Option, MatchOption, inl, inr}
use Rattle.std.specs.List.{AllByRecursion}
use Rattle.std.specs.Str.{IsUtf8}
use Rattle.std.proofs.lemmas.Bool.{cases_Bool, true≢false, and_parts, eqb-true}
use Rattle.std.proofs.lemmas.Str.{IsUtf8-from_is_utf8, is_utf8-from_IsUtf8}
use Rattle.wtf8_core.proofs.lemmas.vectors.ComputedTests.{all_below, each_below}
use Rattle.os_quote.specs.Shown.{stays_on_line}
use Rattle.os_command_line.specs.declared.shell.form.Form.{Form}
use Rattle.os_command_line.specs.declared.shell.form.Form.TheVariants as form
use Rattle.os_command_line.specs.declared.shell.language.Language.{Language}
use Rattle.os_command_line.specs.declared.shell.step.State.{State}
use Rattle.os_command_line.specs.declared.shell.step.State.TheVariants.{Start}
use Rattle.os_command_line.specs.Shell.{dollar, single_quote, is_mark, is_blank, is_special, IsBare, Ends, Reads}
use Rattle.os_command_line.specs.Shell.Outcome.{Word}
use Rattle.os_command_line.specs.Shell.Reads.{ends, bare, single}
use Rattle.os_command_line.specs.ShellReader.{is_itself, raw_bytes, bytes_left, meant, outcome}
use Rattle.os_command_line.specs.ShellSteps.{AcceptsForm, AreItself, BeginsBare, BeginsQuoted, is_bare_form, IsFormOf, IsLineFormOf, prints_text}
use Rattle.os_command_line.specs.ShellWriting.{is_plain, are_plain, is_plain_name, HasNoNul, IsLineText}
use Rattle.os_command_line.proofs.lemmas.ShellMeaning.{meant_is, meant_short}
use Rattle.os_command_line.proofs.lemmas.ShellOneReading.{complete, and_none, or_false}
use Rattle.os_command_line.proofs.lemmas.ShellOnLine.{IsShown, ascii}
use Rattle.os_command_line.proofs.lemmas.ShellRoundTrip.{no_dollar, plain_low}

-- ---- words

special_dollar : (first : Bool) (b : ℕ) → is_special first b ≡ false → eqb b dollar ≡ false
special_dollar first b h = elim (cases_Bool (eqb b dollar)) [
  | inl e ↦ absurd (true≢false (sym (subst (λ x. is_special first x ≡ true) (sym (eqb-true b dollar e)) refl) ∙ h))
  | inr e ↦ e
]

pub is_bare : (l : Language) (first : Bool) (b : ℕ) (text : List ℕ) → is_itself first b ≡ true → IsBare l first b text
is_bare l first b text h =
    let other = not-false _ h in
    let x = or_false (is_mark b) (is_blank b || is_special first b) other in
    let y = or_false (is_blank b) (is_special first b) x.1 in
    record { no_mark = x.0; no_blank = y.0; no_dollar = no_dollar l b text (special_dollar first b y.1); no_special = and_none l.refuses_specials (is_special first b) y.1 }
  where
    not-false : (x : Bool) → not x ≡ true → x ≡ false
    not-false true e = cc
    not-false false e = refl

bare_text : (l : Language) (first : Bool) (raw rest : List ℕ) → AreItself first raw → Ends rest → Reads l first (raw ++ rest) (Word raw rest)
bare_text l first [] rest h e = ends first rest e
bare_text l first (b ∷ raw) rest h e = bare first b (raw ++ rest) (Word raw rest) (is_bare l first b (raw ++ rest) h.0) (bare_text l false raw rest h.1 e)

pub bare_outcome : (l : Language) (text rest : List ℕ) (b : BeginsBare text rest) → outcome l text ≡ Word b.raw rest
bare_outcome l text rest b = ap (outcome l) b.joined ∙ complete l true (b.raw ++ rest) (Word b.raw rest) [] (bare_text l true b.raw rest b.are_itself b.ends)

module _ (l : Language) (text quoted rest : List ℕ) (b : BeginsQuoted text quoted rest) where
  pub quoted_outcome : Ends rest → outcome l text ≡ Word quoted rest
  quoted_outcome e =
      ap (outcome l) b.joined
      ∙ complete l true (single_quote ∷ (quoted ++ single_quote ∷ rest)) (Word (quoted ++ []) rest) [] (single true quoted rest (Word [] rest) b.none (ends false rest e))
      ∙ ap (λ z. Word z rest) (append-nil quoted)

  pub quoted_meant : rest ≡ [] → meant l Start zero text ≡ quoted
  quoted_meant e = meant_is l Start [] zero text quoted (subst (λ r. outcome l text ≡ Word quoted r) e (quoted_outcome (subst Ends (sym e) tt)))

pub one_itself : (text rest : List ℕ) (b : ℕ) (after : List ℕ) → (raw : List ℕ) × AreItself false raw × (text ≡ raw ++ rest) → rest ≡ b ∷ after → is_itself false b ≡ true → (raw : List ℕ) × AreItself false raw × (text ≡ raw ++ after)
one_itself text rest b after so_far e h = (so_far.0 ++ b ∷ [], more so_far.0 so_far.1, so_far.2 ∙ ap (λ z. so_far.0 ++ z) e ∙ sym (append_assoc so_far.0 (b ∷ []) after))
  where
    more : (raw : List ℕ) → AreItself false raw → AreItself false (raw ++ b ∷ [])
    more [] k = (h, tt)
    more (x ∷ raw) k = (k.0, more raw k.1)

pub begins_bare : (text : List ℕ) (b : ℕ) (after rest : List ℕ) → text ≡ b ∷ after → is_itself true b ≡ true → (raw : List ℕ) × AreItself false raw × (after ≡ raw ++ rest) → Ends rest → BeginsBare text rest
begins_bare text b after rest e h more ended = record { raw = b ∷ more.0; joined = e ∙ ap (λ z. b ∷ z) more.2; are_itself = (h, more.1); ends = ended }

pub bare_raw : (l : Language) (is_bare : Bool) (raw : List ℕ) → is_bare ≡ true → raw_bytes l is_bare raw ≡ raw
bare_raw l is_bare raw e = rw e refl

pub raw_short : (l : Language) (is_bare : Bool) (raw : List ℕ) → length (raw_bytes l is_bare raw) ≤ length raw
raw_short l true raw = omega arith
raw_short l false raw = meant_short l Start zero raw

module _ (l : Language) (bare : Bool) (s next : State) (text rest : List ℕ) (byte : Option ℕ) where
  pub left_bare : bare ≡ true → MatchOption byte ((text ≡ []) × (rest ≡ [])) (λ b. text ≡ b ∷ rest) → MatchOption byte ((bytes_left l bare s text ≡ []) × (bytes_left l bare next rest ≡ [])) (λ b. bytes_left l bare s text ≡ b ∷ bytes_left l bare next rest)
  left_bare e h = rw e h

  pub left_marked : bare ≡ false → MatchOption byte ((meant l s zero text ≡ []) × (meant l next zero rest ≡ [])) (λ b. meant l s zero text ≡ b ∷ meant l next zero rest) → MatchOption byte ((bytes_left l bare s text ≡ []) × (bytes_left l bare next rest ≡ [])) (λ b. bytes_left l bare s text ≡ b ∷ bytes_left l bare next rest)
  left_marked e h = rw e h

-- ---- names

plain_no_nul : (b : ℕ) → is_plain b ≡ true → b ≢ 0
plain_no_nul b h e = true≢false (sym (subst (λ x. is_plain x ≡ true) e h))

-- what holds of each byte that needs no quotes holds of each of a name's
each_plain : (P : ℕ → Type 0) → ((b : ℕ) → is_plain b ≡ true → P b) → (name : List ℕ) → are_plain name ≡ true → AllByRecursion P name
each_plain P f [] h = tt
each_plain P f (b ∷ name) h = let p = and_parts (is_plain b) (are_plain name) h in (f b p.0, each_plain P f name p.1)

are_all : (name : List ℕ) → is_plain_name name ≡ true → are_plain name ≡ true
are_all [] h = refl
are_all (b ∷ name) h = h

pub plain_has_no_nul : (name : List ℕ) → is_plain_name name ≡ true → HasNoNul name
plain_has_no_nul name h = each_plain (λ b. b ≢ 0) plain_no_nul name (are_all name h)

abbrev stays_if_plain : ℕ → Bool
stays_if_plain b = not (is_plain b && not (stays_on_line b))

all_stay : all_below stays_if_plain 0x80 ≡ true
all_stay = refl

plain_stays : (b : ℕ) → is_plain b ≡ true → stays_on_line b ≡ true
plain_stays b h = elim (cases_Bool (stays_on_line b)) [
  | inl e ↦ e
  | inr e ↦ absurd (true≢false (sym (each_below stays_if_plain 0x80 b all_stay (plain_low b h)) ∙ rw (h, e) refl))
]

pub plain_is_line_text : (name : List ℕ) → is_plain_name name ≡ true → IsLineText name
plain_is_line_text name h = ascii name (each_plain IsShown (λ b p. (plain_low b p, plain_stays b p)) name (are_all name h))

pub bare_is_text : (name : List ℕ) (f : Form) → IsFormOf name f → is_bare_form f ≡ true → IsUtf8 name
bare_is_text name form.Bare h e = (plain_is_line_text name h).0
bare_is_text name form.Single h e = absurd (true≢false (sym e))
bare_is_text name form.Dollar h e = absurd h

pub form_is_text : (name : List ℕ) (f : Form) → IsFormOf name f → IsUtf8 name → prints_text f name ≡ true
form_is_text name form.Bare h u = is_utf8-from_IsUtf8 name u
form_is_text name form.Single h u = is_utf8-from_IsUtf8 name u
form_is_text name form.Dollar h u = refl

pub line_form_is_text : (name : List ℕ) (f : Form) → IsLineFormOf name f → prints_text f name ≡ true
line_form_is_text name form.Bare h = is_utf8-from_IsUtf8 name h.0.0
line_form_is_text name form.Single h = is_utf8-from_IsUtf8 name h.0.0
line_form_is_text name form.Dollar h = refl

-- what sinks accept
pub text_form : (name : List ℕ) (f : Form) → prints_text f name ≡ true → AcceptsForm IsUtf8 f name
text_form name form.Bare e = IsUtf8-from_is_utf8 name e
text_form name form.Single e = IsUtf8-from_is_utf8 name e
text_form name form.Dollar e = tt

pub any_form : (name : List ℕ) (f : Form) → AcceptsForm (λ piece. Unit {0}) f name
any_form name form.Bare = tt
any_form name form.Single = tt
any_form name form.Dollar = tt

pub bare_line_form : (name : List ℕ) (f : Form) → IsFormOf name f → is_bare_form f ≡ true → IsLineFormOf name f
bare_line_form name form.Bare h e = (plain_is_line_text name h, h)
bare_line_form name form.Single h e = absurd (true≢false (sym e))
bare_line_form name form.Dollar h e = absurd h
