-- What a word of a command line is read as, of strings of any type.
use Rattle.std.specs.Prelude.{◌≡◌, ℕ, List, [], ◌∷◌, ◌++◌}
use Rattle.wtf8_core.specs.Occurrence.{IsPrefix}
use Rattle.test_line_uses.specs.declared.arguments.Argument.{Argument}
use Rattle.test_line_uses.specs.declared.arguments.Argument.TheVariants.{Long, Operand}

-- `--`
abbrev pub dashes : List ℕ
dashes = 0x2D ∷ 0x2D ∷ []

-- the word is read as this: a long option has two dashes and then the name, an operand is the word, which doesn't start with them; `of` is what a string counts as
abbrev pub IsReadAs : {S : Type 0} → (S → List ℕ) → List ℕ → Argument S → Type 0
IsReadAs of word (Long name) = word ≡ dashes ++ of name
IsReadAs of word (Operand operand) = (of operand ≡ word) × ¬ (IsPrefix dashes word)
