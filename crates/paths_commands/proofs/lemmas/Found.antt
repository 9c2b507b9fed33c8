-- The task that operands name, and the paths after its own operands.
use Rattle.std.proofs.Common.{◌≡◌, ◌≢◌, ◌↔◌, inl, ◌∷◌, ◌++◌, ℕ, List, length, map, sym, subst, arith}
use Rattle.std.proofs.lemmas.List.{length-map}
use Rattle.std.specs.Prelude.{Bool, true, false, codes}
use Rattle.program_frame.specs.declared.os.Os.{Os}
use Rattle.paths_commands.specs.Command.{AreAfterEnd, HasOperands, IsTaskOf, Line, needed_count}
use Rattle.paths_commands.specs.Task.{name_of, operands_of_task}
use Rattle.paths_commands.specs.declared.command.Name.{Name as DeclaredName}
use Rattle.paths_commands.specs.declared.command.Name.TheVariants.{Join}
use Rattle.paths_commands.specs.declared.task.Task.{Task}

pub task_found : (after_end : ℕ) (given : Line) (it : DeclaredName) (is_checked keeps : Bool) (os : Os) (own operands paths : List (List ℕ)) (task : Task) → IsTaskOf it is_checked keeps os own task → HasOperands after_end given it os operands
    → operands ≡ own ++ paths → HasOperands after_end given (name_of task) os (operands_of_task task ++ paths)
task_found after_end given it is_checked keeps os own operands paths task is has whole =
    subst (λ n. HasOperands after_end given n os (operands_of_task task ++ paths)) (sym is.0)
    (subst (λ o. HasOperands after_end given it os (o ++ paths)) is.1.1.1.1 (subst (HasOperands after_end given it os) whole has))

-- no task without an operand joins
pub no_join : (it : DeclaredName) → needed_count it ≡ 0 → it ≢ Join
no_join it none is = let one = subst (λ n. needed_count n ≡ 0) is none in absurd (omega (arith, one))

-- so none is as an option of `join` requests
pub without_option : (is_given : Bool) (it : DeclaredName) (Is Requested : Type 0) → needed_count it ≡ 0 → (is_given ≡ true → it ≡ Join) → (Is ↔ (false ≡ true)) → ((is_given ≡ true) ↔ Requested) → Is ↔ Requested
without_option is_given it Is Requested none joins never by =
    ((λ is. absurd (not_true (never.0 is))), (λ requested. absurd (no_join it none (joins (by.1 requested)))))
  where
    not_true : ◌≡◌ {A = Bool} false true → ⊥
    not_true e = cc

-- the arguments after the first of some, which is `--`
pub first_end : {S : Type 0} (f : S → List ℕ) (words rest : List S) (word : S) → words ≡ word ∷ rest → f word ≡ codes "--" → AreAfterEnd (map f words) (length rest)
first_end f words rest word e is = subst (λ ws. AreAfterEnd (map f ws) (length rest)) (sym e) (inl (is, sym (length-map rest f)))
