-- Which braces open alternatives, and which close them.
use Rattle.std.specs.Prelude.{◌≡◌, ◌⊎◌, ◌+◌, ◌-◌, ℕ, Bool, true, false, nat_eq, cond, List, [], ◌∷◌, ◌++◌, Option, Some, None}
use Rattle.glob_text.specs.declared.fault.PatternFault.{PatternFault}
use Rattle.glob_text.specs.declared.fault.FaultKind.TheVariants.{UnclosedAlternatives, UnopenedAlternatives}
use Rattle.glob_text.specs.Marks.{Mark, literal, any, star, one_of, opens, comma, closes}

-- the number of open alternatives after the mark, given the number before it; `None` after a `}` that closes none
abbrev pub depth_after : ℕ → Mark → Option ℕ
depth_after depth (literal letter) = Some depth
depth_after depth any = Some depth
depth_after depth (star again) = Some depth
depth_after depth (one_of negated ranges) = Some depth
depth_after depth (opens index) = Some (depth + 1)
depth_after depth comma = Some depth
depth_after depth (closes index) = cond (nat_eq depth 0) None (Some (depth - 1))

abbrev pub if_some : Option ℕ → (ℕ → Bool) → Bool
if_some None f = false
if_some (Some depth) f = f depth

module _ (ends : ℕ → Bool) where
  -- given the number of open alternatives, each `}` of the marks closes one, and the number open after the marks passes the test
  abbrev pub goes_on : ℕ → List Mark → Bool
  goes_on depth [] = ends depth
  goes_on depth (mark ∷ marks) = if_some (depth_after depth mark) (λ d. goes_on d marks)

-- each brace opens alternatives that are closed, or closes some
abbrev pub are_balanced : ℕ → List Mark → Bool
are_balanced depth marks = goes_on (λ d. nat_eq d 0) depth marks

-- no `}` closes the alternatives that were opened before
abbrev pub stay_open : List Mark → Bool
stay_open marks = goes_on (λ d. true) 0 marks

-- the outermost `{` that isn't closed
pub record IsUnclosed (marks : List Mark) (fault : PatternFault) : Type 0 where
  pub before : List Mark
  pub index : ℕ
  pub rest : List Mark
  pub joined : marks ≡ before ++ opens index ∷ rest
  pub outermost : are_balanced 0 before ≡ true
  pub unclosed : stay_open rest ≡ true
  pub fault_is : fault ≡ record { kind = UnclosedAlternatives; index = index }

-- the first `}` that closes nothing
pub record IsUnopened (marks : List Mark) (fault : PatternFault) : Type 0 where
  pub before : List Mark
  pub index : ℕ
  pub rest : List Mark
  pub joined : marks ≡ before ++ closes index ∷ rest
  pub none_open : are_balanced 0 before ≡ true
  pub fault_is : fault ≡ record { kind = UnopenedAlternatives; index = index }

-- a brace is at fault
abbrev pub IsBraceFault : List Mark → PatternFault → Type 0
IsBraceFault marks fault = IsUnclosed marks fault ⊎ IsUnopened marks fault
