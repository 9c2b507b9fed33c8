-- Command lines of Windows, written part by part. Lists are of 16-bit units.
use Rattle.std.specs.Prelude.{◌≡◌, ℕ, List, [], ◌∷◌, ◌++◌}
use Rattle.os_command_line.specs.Windows.{quote, IsTextOf, IsPlain}

-- the text is read as this argument, whatever ends it, and is the argument itself where that is plain
abbrev pub IsArgumentText : List ℕ → List ℕ → Type 0
IsArgumentText argument text = IsTextOf text argument × (IsPlain argument → text ≡ argument)

-- a program's name in quotation marks
abbrev pub quoted_name : List ℕ → List ℕ
quoted_name name = quote ∷ (name ++ quote ∷ [])

-- texts after a program's name, a space before each
abbrev pub after_name : List (List ℕ) → List ℕ
after_name [] = []
after_name (text ∷ texts) = 0x20 ∷ (text ++ after_name texts)

-- each text is that of an argument
abbrev pub AreArgumentTexts : List (List ℕ) → List (List ℕ) → Type 0
AreArgumentTexts [] [] = Unit {0}
AreArgumentTexts [] (text ∷ texts) = ⊥
AreArgumentTexts (argument ∷ arguments) [] = ⊥
AreArgumentTexts (argument ∷ arguments) (text ∷ texts) = IsTextOf text argument × AreArgumentTexts arguments texts
