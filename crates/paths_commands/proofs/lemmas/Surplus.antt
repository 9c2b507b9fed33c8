-- The error for an operand too many.
use Rattle.std.proofs.Common.{◌≡◌, ◌∙◌, ℕ, ◌≤◌, List, [], ◌∷◌, length, sym, ap, subst}
use Rattle.list_programs.specs.declared.misuse.Misuse.{Misuse}
use Rattle.list_programs.specs.declared.misuse.Misuse.TheVariants.{Argument, Missing, Invalid, Misplaced}
use Rattle.program_frame.specs.declared.os.Os.{Os}
use Rattle.paths_commands.specs.Command.{HasOperands, IsMisuse, IsSurplus, IsTooMany, Line, needed_count}
use Rattle.paths_commands.specs.declared.command.Name.{Name as DeclaredName}

module _ (after_end : ℕ) (given : Line) (it : DeclaredName) (os : Os) where
  surplus_misuse : (word : List ℕ) (misuse : Misuse) → IsTooMany after_end given word → IsSurplus word misuse → IsMisuse after_end given misuse
  surplus_misuse word (Argument error) many is = (word, (many, is))
  surplus_misuse word (Missing what) many is = absurd is
  surplus_misuse word (Invalid what other) many is = absurd is
  surplus_misuse word (Misplaced option where_to) many is = absurd is

  pub surplus_first : (operands more : List (List ℕ)) (word : List ℕ) (misuse : Misuse) → HasOperands after_end given it os operands → needed_count it ≡ 0
      → operands ≡ word ∷ more → after_end ≤ length more → IsSurplus word misuse → IsMisuse after_end given misuse
  surplus_first operands more word misuse has none is early surplus =
      surplus_misuse word misuse (record { name = it; os = os; before = []; more = more; has = subst (HasOperands after_end given it os) is has; needed = sym none; early = early }) surplus

  pub surplus_second : (operands rest more : List (List ℕ)) (operand word : List ℕ) (misuse : Misuse) → HasOperands after_end given it os operands → needed_count it ≡ 1
      → operands ≡ operand ∷ rest → rest ≡ word ∷ more → after_end ≤ length more → IsSurplus word misuse → IsMisuse after_end given misuse
  surplus_second operands rest more operand word misuse has one first is early surplus =
      let both : operands ≡ operand ∷ word ∷ more = first ∙ ap (λ r. operand ∷ r) is in
      surplus_misuse word misuse (record { name = it; os = os; before = operand ∷ []; more = more; has = subst (HasOperands after_end given it os) both has; needed = sym one; early = early }) surplus
