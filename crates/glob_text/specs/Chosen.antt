-- The marks of choices that are given by their indices.
use Rattle.std.specs.Prelude.{ℕ, List, map, get_or}
use Rattle.glob_text.specs.declared.choices.Chosen.{Chosen}
use Rattle.glob_text.specs.Marks.{Mark, any}

-- the mark of this index
abbrev pub mark_at : List Mark → ℕ → Mark
mark_at marks i = get_or marks i any

-- those of these indices
abbrev pub marks_at : List Mark → List ℕ → List Mark
marks_at marks indices = map (mark_at marks) indices

module _ {A : Type 0} where
  -- the indices of the marks of each choice
  abbrev pub indices_of : List (Chosen A) → List (List ℕ)
  indices_of cs = map (λ c. c.marks.items) cs

  -- the marks of each choice
  abbrev pub choices_of : List Mark → List (Chosen A) → List (List Mark)
  choices_of marks cs = map (λ c. marks_at marks c.marks.items) cs
