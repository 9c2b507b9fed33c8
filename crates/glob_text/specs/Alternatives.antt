-- The patterns without alternatives that a pattern with alternatives is written out as.
-- The order is that of bash ("Brace Expansion"). In bash `{a}` and `{}` stay as they are, `{1..3}` is a sequence, and braces in a class are alternatives.
use Rattle.std.specs.Prelude.{◌≡◌, ◌⊎◌, ◌+◌, ◌<◌, ◌≤◌, ℕ, Bool, true, false, not, List, [], ◌∷◌, ◌++◌, map, length}
use Rattle.std.specs.List.{flat_map}
use Rattle.glob_text.specs.Marks.{Mark, literal, any, star, one_of, opens, comma, closes}

-- the largest number of patterns that one may be written out as
abbrev pub most_choices : ℕ
most_choices = 1024

-- the largest number of marks that several of them may have together
abbrev pub most_marks : ℕ
most_marks = 65536

module _ {X : Type 0} where
  -- how many marks the choices have together
  abbrev pub mark_count : List (List X) → ℕ
  mark_count [] = 0
  mark_count (c ∷ cs) = length c + mark_count cs

  -- they are too many, or they are several and have too many marks together
  abbrev pub AreTooLarge : List (List X) → Type 0
  AreTooLarge cs = (most_choices < length cs) ⊎ ((1 < length cs) × (most_marks < mark_count cs))

  -- they are few enough, and several have few enough marks together
  pub record AreWithinLimits (cs : List (List X)) : Type 0 where
    pub choices : length cs ≤ most_choices
    pub marks : 1 < length cs → mark_count cs ≤ most_marks

  -- each list, with one more element
  abbrev pub each : List (List X) → X → List (List X)
  each cs x = map (λ c. c ++ x ∷ []) cs

  -- each list of the first, and after it each of the second
  abbrev pub product : List (List X) → List (List X) → List (List X)
  product cs ds = flat_map (λ c. map (λ d. c ++ d) ds) cs

-- what marks are: a sequence, inside of alternatives or not; or alternatives
pub data Level : Type 0 where
  sequence : Bool → Level
  alternatives : Level

-- the mark is itself in each choice: a comma outside of alternatives
abbrev pub is_itself : Bool → Mark → Bool
is_itself inside (literal letter) = true
is_itself inside any = true
is_itself inside (star again) = true
is_itself inside (one_of negated ranges) = true
is_itself inside (opens index) = false
is_itself inside comma = not inside
is_itself inside (closes index) = false

-- The marks are written out as the choices.
-- A sequence begins with nothing, and goes on with a mark, or with alternatives in braces.
-- Alternatives are sequences with commas between them.
pub data StandFor : Level → List Mark → List (List Mark) → Type 0 where
  nothing : {inside : Bool} → StandFor (sequence inside) [] ([] ∷ [])
  one : {inside : Bool} {ms : List Mark} {cs : List (List Mark)} (mark : Mark) → is_itself inside mark ≡ true → StandFor (sequence inside) ms cs → StandFor (sequence inside) (ms ++ mark ∷ []) (each cs mark)
  group : {inside : Bool} {ms ns : List Mark} {cs ds : List (List Mark)} (i j : ℕ) → StandFor (sequence inside) ms cs → StandFor alternatives ns ds → StandFor (sequence inside) (ms ++ opens i ∷ (ns ++ closes j ∷ [])) (product cs ds)
  first : {ms : List Mark} {cs : List (List Mark)} → StandFor (sequence true) ms cs → StandFor alternatives ms cs
  next : {ms ns : List Mark} {cs ds : List (List Mark)} → StandFor alternatives ms cs → StandFor (sequence true) ns ds → StandFor alternatives (ms ++ comma ∷ ns) (cs ++ ds)

-- the pattern is written out as the choices
abbrev pub AreChoices : List Mark → List (List Mark) → Type 0
AreChoices marks cs = StandFor (sequence false) marks cs

-- the pattern is written out as choices that are too large
pub record AreTooMany (marks : List Mark) : Type 0 where
  pub choices : List (List Mark)
  pub are : AreChoices marks choices
  pub many : AreTooLarge choices
