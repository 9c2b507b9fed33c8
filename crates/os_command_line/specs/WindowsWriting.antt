-- Command lines written (std's `append_arg` and `make_command_line`), and what can't be.
use Rattle.std.specs.Prelude.{◌≡◌, ◌≢◌, ◌⊎◌, ℕ, nat_eq, Bool, true, false, ◌||◌, ◌&&◌, if◌then◌else◌, List, [], ◌∷◌, ◌++◌, length, map}
use Rattle.std.specs.List.{AllByRecursion}
use Rattle.os_command_line.specs.declared.windows.error.CommandLineError.{CommandLineError}
use Rattle.os_command_line.specs.declared.windows.error.CommandLineError.TheVariants as error
use Rattle.os_command_line.specs.ShellWriting.{after_first}
use Rattle.os_command_line.specs.Windows.{backslash, quote, backslashes, is_blank, IsBlank, Begins}

-- the unit isn't there
abbrev pub HasNo : ℕ → List ℕ → Type 0
HasNo c us = AllByRecursion (λ u. u ≢ c) us

-- the first index at which the unit is
pub record IsFirstAt (c : ℕ) (us : List ℕ) (i : ℕ) : Type 0 where
  pub before : List ℕ
  pub after : List ℕ
  pub joined : us ≡ before ++ c ∷ after
  pub none_before : HasNo c before
  pub index : i ≡ length before

-- why an argument can't be written: a NUL, at its first index; or an allocation failed
abbrev pub IsArgumentFault : List ℕ → CommandLineError → Type 0
IsArgumentFault us (error.Nul i) = IsFirstAt 0 us i
IsArgumentFault us (error.Quote i) = ⊥
IsArgumentFault us error.Memory = Unit {0}

-- why a program's name can't be: a NUL or, where it has none, a quotation mark
abbrev pub IsNameFault : List ℕ → CommandLineError → Type 0
IsNameFault us (error.Nul i) = IsFirstAt 0 us i
IsNameFault us (error.Quote i) = HasNo 0 us × IsFirstAt quote us i
IsNameFault us error.Memory = Unit {0}

-- the fault of the first argument that has one
pub record IsFirstFault (arguments : List (List ℕ)) (fault : CommandLineError) : Type 0 where
  pub before : List (List ℕ)
  pub argument : List ℕ
  pub after : List (List ℕ)
  pub joined : arguments ≡ before ++ argument ∷ after
  pub none_before : AllByRecursion (HasNo 0) before
  pub is : IsArgumentFault argument fault

-- why a command line can't be written: its program's name, or else an argument
abbrev pub IsCommandLineFault : List ℕ → List (List ℕ) → CommandLineError → Type 0
IsCommandLineFault name arguments fault = IsNameFault name fault ⊎ ((HasNo 0 name × HasNo quote name) × IsFirstFault arguments fault)

-- what is in a name that can be written
abbrev pub IsWritableName : List ℕ → Type 0
IsWritableName name = HasNo 0 name × HasNo quote name

-- from here on there are backslashes, or none, and then a quotation mark: one of the argument's, or the one that closes its text
abbrev pub leads_to_mark : Bool → List ℕ → Bool
leads_to_mark closed [] = closed
leads_to_mark closed (u ∷ us) = nat_eq u quote || (nat_eq u backslash && leads_to_mark closed us)

-- the units, with one backslash more before each quotation mark and before each backslash that leads to one
abbrev pub escaped : Bool → List ℕ → List ℕ
escaped closed [] = []
escaped closed (u ∷ us) = if leads_to_mark closed (u ∷ us) then backslash ∷ u ∷ escaped closed us else u ∷ escaped closed us

-- an argument in quotation marks
abbrev pub in_marks : List ℕ → List ℕ
in_marks argument = quote ∷ (escaped true argument ++ quote ∷ [])

abbrev pub has_blank : List ℕ → Bool
has_blank [] = false
has_blank (u ∷ us) = is_blank u || has_blank us

-- whether an argument is written in quotation marks: it is empty or has a blank
abbrev pub needs_marks : List ℕ → Bool
needs_marks [] = true
needs_marks (u ∷ us) = has_blank (u ∷ us)

-- the text of an argument
abbrev pub argument_text : List ℕ → List ℕ
argument_text argument = if needs_marks argument then in_marks argument else escaped false argument

-- the command line of a program's name and arguments: the name in quotation marks, and the text of each argument after a space
abbrev pub line_text : List ℕ → List (List ℕ) → List ℕ
line_text name arguments = (quote ∷ (name ++ quote ∷ [])) ++ after_first (map argument_text arguments)

-- what is still to be written from these units on, where `run` backslashes come before them and are written once
abbrev pub unwritten : Bool → ℕ → List ℕ → List ℕ
unwritten inside run us = (if leads_to_mark inside us then backslashes run else []) ++ escaped inside us

-- what is added for a unit
pub record IsAddedFor (inside : Bool) (run unit : ℕ) (added : List ℕ) (next : ℕ) : Type 0 where
  pub spelled : (rest : List ℕ) → unwritten inside run (unit ∷ rest) ≡ added ++ unwritten inside next rest
  pub no_blank : inside ≡ false → ¬ (IsBlank unit)
  pub plain : unit ≢ quote → added ≡ unit ∷ []

-- `prefix`, whose last `run` units are backslashes, is written of these units, whatever comes after them
pub record IsPart (inside : Bool) (prefix : List ℕ) (run : ℕ) (taken : List ℕ) : Type 0 where
  pub spelled : (rest : List ℕ) → escaped inside (taken ++ rest) ≡ prefix ++ unwritten inside run rest
  pub no_blank : inside ≡ false → AllByRecursion (λ u. ¬ (IsBlank u)) taken

-- units were written that mean those
pub record IsWritten (inside : Bool) (old new : List ℕ) (run : ℕ) (taken : List ℕ) : Type 0 where
  pub prefix : List ℕ
  pub new_is : new ≡ old ++ prefix
  pub part : IsPart inside prefix run taken
  pub begins : inside ≡ false → taken ≢ [] → Begins prefix
  pub plain : HasNo quote taken → prefix ≡ taken
