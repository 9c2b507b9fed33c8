-- What `join` gives back of the names that `list` was given.
use Rattle.std.specs.Prelude.{◌≡◌, ◌⊎◌, ℕ, List, [], ◌∷◌, ◌++◌}
use Rattle.list_programs.specs.declared.options.LastItem.{LastItem}
use Rattle.list_programs.specs.declared.options.ListOptions.{ListOptions}
use Rattle.names_commands.specs.declared.task.Task.TheVariants.{ListAll, ListWords, Join, JoinWords}
use Rattle.names_commands.specs.declared.task.EmptyLine.{EmptyLine}
use Rattle.names_commands.specs.declared.task.EmptyLine.TheVariants.{IsRejected, IsEmptyName}
use Rattle.names_commands.specs.declared.task.WordForm.TheVariants.{OneLine}
use Rattle.names_commands.specs.declared.task.Settings.{Settings}

-- all names of a list that is written so are listed, and lines are joined to such a list
abbrev pub listing : ListOptions → Settings
listing list = record { task = ListAll; list = list }

abbrev pub joining : EmptyLine → ListOptions → Settings
joining empty list = record { task = Join empty; list = list }

-- the same with words on one line
abbrev pub listing_words : ListOptions → Settings
listing_words list = record { task = ListWords OneLine; list = list }

abbrev pub joining_words : ListOptions → Settings
joining_words list = record { task = JoinWords; list = list }

-- the same list, but for whether the last item that is read may lack its end
abbrev pub with_last : LastItem → ListOptions → ListOptions
with_last last list = record { end = list.end; last = last; max = list.max }

-- the last name has its end: there is none, or the last byte is the end
abbrev pub EndsWith : ℕ → List ℕ → Type 0
EndsWith end names = (names ≡ []) ⊎ ((prefix : List ℕ) × (names ≡ prefix ++ end ∷ []))

-- no name is empty: none ends at the start of the list, or right after another
abbrev pub LacksEmpty : ℕ → List ℕ → Type 0
LacksEmpty end names = (before after : List ℕ) → names ≡ before ++ end ∷ after → ¬ (EndsWith end before)

-- the line of each name is taken: an empty line is, or no name is empty
abbrev pub AreTaken : EmptyLine → ℕ → List ℕ → Type 0
AreTaken IsRejected end names = LacksEmpty end names
AreTaken IsEmptyName end names = Unit {0}

-- the names, with the end that the last may lack
abbrev pub IsCompleted : ℕ → List ℕ → List ℕ → Type 0
IsCompleted end names completed = (EndsWith end names × (completed ≡ names)) ⊎ ((¬ (EndsWith end names)) × (completed ≡ names ++ end ∷ []))

-- some of the first names, each with its end
abbrev pub AreFirst : ℕ → List ℕ → List ℕ → Type 0
AreFirst end names some = EndsWith end some × ((rest : List ℕ) × (completed : List ℕ) × IsCompleted end names completed × (completed ≡ some ++ rest))
