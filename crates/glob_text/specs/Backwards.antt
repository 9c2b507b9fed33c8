-- Choices, found from the last mark to the first: only private contracts name this.
use Rattle.std.specs.Prelude.{List, [], ◌∷◌, ◌++◌, map}
use Rattle.glob_text.specs.Marks.{Mark, literal, any, star, one_of, opens, comma, closes}

module _ (C : Type 0) where
  -- alternatives that are read from their `}` on: what comes after them, and those that are whole, each with what comes after it
  pub record Pending : Type 0 where
    pub after : C
    pub found : C

  -- the alternatives that are read, the innermost first, and what is written out of the marks so far
  pub record Behind : Type 0 where
    pub groups : List Pending
    pub current : C

module _ {C : Type 0} (none : C) (both : C → C → C) (with_mark : Mark → C → C) where
  -- before a mark that is itself
  abbrev pub before_itself : Mark → Behind C → Behind C
  before_itself m s = record { groups = s.groups; current = with_mark m s.current }

  -- before a `{`
  abbrev pub open_in : List (Pending C) → C → Behind C
  open_in [] current = record { groups = []; current = current }
  open_in (g ∷ gs) current = record { groups = gs; current = both current g.found }

  -- before a comma
  abbrev pub comma_in : List (Pending C) → C → Behind C
  comma_in [] current = record { groups = []; current = with_mark comma current }
  comma_in (g ∷ gs) current = record { groups = record { after = g.after; found = both current g.found } ∷ gs; current = g.after }

  -- before one more mark
  abbrev pub before : Mark → Behind C → Behind C
  before (literal letter) s = before_itself (literal letter) s
  before any s = before_itself any s
  before (star again) s = before_itself (star again) s
  before (one_of negated ranges) s = before_itself (one_of negated ranges) s
  before (opens index) s = open_in s.groups s.current
  before comma s = comma_in s.groups s.current
  before (closes index) s = record { groups = record { after = s.current; found = none } ∷ s.groups; current = s.current }

-- each choice, with a mark before it
abbrev pub each_after : {X : Type 0} → X → List (List X) → List (List X)
each_after x cs = map (λ c. x ∷ c) cs

-- the lists of choices, before one more mark
abbrev pub choices_before : Mark → Behind (List (List Mark)) → Behind (List (List Mark))
choices_before m s = before [] (λ cs ds. cs ++ ds) each_after m s

-- those before these marks
abbrev pub choices_behind : List Mark → Behind (List (List Mark)) → Behind (List (List Mark))
choices_behind [] s = s
choices_behind (m ∷ ms) s = choices_before m (choices_behind ms s)

-- before any mark is read
abbrev pub at_end : Behind (List (List Mark))
at_end = record { groups = []; current = [] ∷ [] }
