-- What a compiled pattern keeps.
use Rattle.std.specs.Prelude.{◌≡◌, ℕ, List}
use Rattle.platform_str.specs.declared.platform.Platform.{Ghosts}
use Rattle.platform_str.specs.Strings.{string_vec_of}
use Rattle.wildcards.specs.declared.pattern.Choice.{Choice}
use Rattle.glob_patterns.specs.declared.glob.Glob.{Glob}

module _ {E A : Type 0} {P : Ghosts E} where
  -- the text that the pattern was compiled of
  abbrev pub text_of : Glob E A P → List ℕ
  text_of glob = (string_vec_of glob.compiled.value.text).items

  -- what the pattern was compiled to
  abbrev pub choices_of : Glob E A P → List (Choice A)
  choices_of glob = glob.compiled.value.choices.items

  -- the second has the options, the text and the choices of the first
  abbrev pub IsGlobClone : Glob E A P → Glob E A P → Type 0
  IsGlobClone glob clone = (clone.options ≡ glob.options) × ((text_of clone ≡ text_of glob) × (choices_of clone ≡ choices_of glob))
