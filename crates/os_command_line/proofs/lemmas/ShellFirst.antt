-- The word of a name that is first on a line.
use Rattle.std.proofs.Common.{◌≡◌, ℕ, true, false, eqb, List, [], ◌∷◌, ◌++◌, refl, sym, ◌∙◌, ap}
use Rattle.os_command_line.specs.declared.shell.form.Form.{Form}
use Rattle.os_command_line.specs.declared.shell.form.Form.TheVariants as form
use Rattle.os_command_line.specs.ReservedWords.{ends_with_colon, is_reserved, first_word, word_on}
use Rattle.os_command_line.specs.ShellSteps.{form_text, IsFormOf}
use Rattle.os_command_line.specs.ShellWriting.{is_plain_name, single_quoted, quoted_word}

pub last_colon : (name : List ℕ) (prefix : List ℕ) (b : ℕ) → name ≡ prefix ++ b ∷ [] → ends_with_colon name ≡ eqb b 0x3A
last_colon name prefix b e = ap ends_with_colon e ∙ of_last prefix
  where
    of_last : (prefix : List ℕ) → ends_with_colon (prefix ++ b ∷ []) ≡ eqb b 0x3A
    of_last [] = refl
    of_last (x ∷ []) = refl
    of_last (x ∷ y ∷ prefix) = of_last (y ∷ prefix)

-- the form of a reserved word, and of another name
pub first_quoted : (name : List ℕ) → is_reserved name ≡ true → single_quoted name ≡ first_word name
first_quoted name e = rw e refl

pub first_other : (name : List ℕ) (f : Form) → IsFormOf name f → is_reserved name ≡ false → form_text f name ≡ first_word name
first_other name form.Bare h e = rw (e, h) refl
first_other name form.Single h e = rw (e, h) refl
first_other name form.Dollar h e = absurd h

-- on an empty line
pub on_empty : (line name : List ℕ) → line ≡ [] → first_word name ≡ word_on line name
on_empty line name e = sym (ap (λ z. word_on z name) e)

pub on_other : (line name : List ℕ) → (line ≡ [] → ⊥) → quoted_word name ≡ word_on line name
on_other [] name n = absurd (n refl)
on_other (b ∷ line) name n = refl
