-- Bytes that mean themselves outside quotes, by the table of them, and in a step of the reader.
use Rattle.std.proofs.Common.{◌≡◌, ℕ, ◌<◌, Bool, true, false, ◌||◌, ◌&&◌, List, refl, sym, ◌∙◌, Some, inl, inr}
use Rattle.std.specs.Prelude.{slice_index_or}
use Rattle.std.proofs.lemmas.Bool.{cases_Bool, not-true, true≢false}
use mathlib.Core.Bool.{beq}
use Rattle.wtf8_core.proofs.lemmas.vectors.ComputedTests.{all_below, each_below}
use Rattle.os_command_line.specs.declared.shell.language.Language.{Language}
use Rattle.os_command_line.specs.declared.shell.step.State.{State}
use Rattle.os_command_line.specs.declared.shell.step.State.TheVariants.{Start, Bare, Single, Double, Dollar}
use Rattle.os_command_line.specs.declared.shell.step.Step.TheVariants.{Go}
use Rattle.os_command_line.specs.declared.shell.step.TheConstants.{ITSELF}
use Rattle.os_command_line.specs.Shell.{is_mark, is_blank, is_special, is_special_doubled}
use Rattle.os_command_line.specs.ShellReader.{is_start, is_itself, step}
use Rattle.os_command_line.proofs.lemmas.ShellBare.{is_bare}
use Rattle.os_command_line.proofs.lemmas.ShellOneReading.{or_false, or_true, no_mark, special_no_mark, special_no_blank, of_special_doubled, bare_go, and_none, doubled_go}

same : (x y : Bool) → beq x y ≡ true → x ≡ y
same true true e = refl
same true false e = absurd (true≢false (sym e))
same false true e = absurd (true≢false (sym e))
same false false e = refl

-- whether the table has a byte right, first in a word or not
abbrev is_right : Bool → ℕ → Bool
is_right first b = (first && is_special first b) || beq (slice_index_or ITSELF b false) (is_itself first b)

all_right : (first : Bool) → all_below (is_right first) 256 ≡ true
all_right true = refl
all_right false = refl

pub table_is_right : (first : Bool) (b : ℕ) → b < 256 → first && is_special first b ≡ false → slice_index_or ITSELF b false ≡ is_itself first b
table_is_right first b h n = elim (or_true (first && is_special first b) _ (each_below (is_right first) 256 b (all_right first) h)) [ inl e ↦ absurd (true≢false (sym e ∙ n)) | inr e ↦ same _ _ e ]

pub special_is_not : (first : Bool) (b : ℕ) → is_special first b ≡ true → false ≡ is_itself first b
special_is_not first b h = rw (special_no_mark first b h, special_no_blank first b h, h) refl

-- ---- such a byte in a step

itself_parts : (b : ℕ) → is_itself false b ≡ true → (is_mark b ≡ false) × (is_special_doubled b ≡ false)
itself_parts b h =
    let x = or_false (is_mark b) (is_blank b || is_special false b) (not-true _ h) in
    let y = or_false (is_blank b) (is_special false b) x.1 in
    (x.0, elim (cases_Bool (is_special_doubled b)) [ inl e ↦ absurd (true≢false (sym (of_special_doubled (λ c. is_special false c ≡ true) b e refl refl refl) ∙ y.1)) | inr e ↦ e ])

-- outside quotes and in quotes it means itself
pub itself_step : (l : Language) (s : State) (b : ℕ) (text : List ℕ) → is_start s ≡ false → is_itself false b ≡ true → step l s b text ≡ Go (Some b) s 0
itself_step l Start b text s h = absurd (true≢false s)
itself_step l Bare b text s h = bare_go l false b text (is_bare l false b text h)
itself_step l Single b text s h = let n = no_mark b (itself_parts b h).0 in rw n.0 refl
itself_step l Double b text s h =
    let p = itself_parts b h in
    let n = no_mark b p.0 in
    doubled_go l b text (record { no_quote = n.1; no_backslash = n.2; no_special = and_none l.refuses_specials (is_special_doubled b) p.1 })
itself_step l Dollar b text s h = let n = no_mark b (itself_parts b h).0 in rw (n.0, n.2) refl
