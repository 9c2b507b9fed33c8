-- Which end is to blame after a run that passed over paths.
use Rattle.std.proofs.Common.{◌≡◌, inl, inr, ℕ, Result, Ok, Err, sym, subst}
use Rattle.std.specs.Prelude.{Bool, true, false, ⊤}
use Rattle.list_programs.specs.ProgramFault.{BlamesEnds}
use Rattle.list_programs.specs.declared.fault.ListFault.{ListFault}
use Rattle.list_programs.specs.declared.program_fault.Fault.TheVariants.{List as OfList, Words}
use Rattle.list_programs.proofs.lemmas.Runs.{no_err}
use Rattle.paths_commands.specs.Program.{Fault, IsAfter}
use Rattle.paths_commands.specs.declared.fault.CommandFault.{CommandFault}
use Rattle.paths_commands.specs.declared.fault.Rejection.{Rejection}

-- a fault of the arguments is none of the list
not_both : (answer : Result ⊤ Fault) (why : CommandFault) (fault : ListFault Rejection) → answer ≡ Err (Words why) → answer ≡ Err (OfList fault) → ⊥
not_both answer why fault e d = cc

not_ok : ◌≡◌ {A = Bool} false true → ⊥
not_ok e = cc

pub after_blames : (count : ℕ) (ran answer : Result ⊤ Fault) (reader writer : Bool) → IsAfter count ran answer → BlamesEnds ran reader writer → BlamesEnds answer reader writer
after_blames count (Ok done) (Ok other) reader writer after blames = ((λ e. absurd (no_err e), λ set. absurd (no_err (blames.0.1 set))), (λ e. absurd (no_err e), λ set. absurd (no_err (blames.1.1 set))))
after_blames count (Ok done) (Err fault) reader writer (inl none) blames = absurd (not_ok none.1)
after_blames count (Ok done) (Err fault) reader writer (inr some) blames = ((λ e. absurd (not_both _ _ _ some.1 e), λ set. absurd (no_err (blames.0.1 set))), (λ e. absurd (not_both _ _ _ some.1 e), λ set. absurd (no_err (blames.1.1 set))))
after_blames count (Err fault) answer reader writer is blames = subst (λ a. BlamesEnds a reader writer) (sym is) blames
