-- The result of a run where nothing written is a fault, or isn't.
use Rattle.std.proofs.Common.{◌≡◌, ℕ, List, Bool, true, false, Option, None, Some, Result, Ok, Err, refl, sym, ◌∙◌, subst}
use Rattle.std.specs.Option.{option_map}
use Rattle.std.specs.Prelude.{⊤, OnOk}
use Rattle.list_programs.specs.ListRun.{EndedBy, IsEndedBy, Runs, WritesSome, answer_of, ended_by}
use Rattle.list_programs.specs.Rules.{ListRules}
use Rattle.list_programs.specs.declared.fault.ListFault.{ListFault}
use Rattle.list_programs.specs.declared.program_fault.Fault.TheVariants.{Words}
use Rattle.names_commands.specs.Fault.{none_for}
use Rattle.names_commands.specs.Program.{Doing, Fault}

-- where nothing written is no fault, it is the outcome
its_outcome : {X : Type 0} (old new : Option (List ℕ)) (ran answer : Result ⊤ X) → IsEndedBy None old new ran answer → answer ≡ ran
its_outcome old new (Ok done) answer ended = ended.1.1
its_outcome old new (Err why) answer ended = ended

-- where no status for that was requested
pub without_status : (Done : Doing) (stated : Bool) (input left old new : Option (List ℕ)) (answer : Result ⊤ Fault) → stated ≡ false → EndedBy (option_map Words (none_for stated)) Done input left old new answer → Done input left old new answer
without_status Done stated input left old new answer is runs =
    let ended = subst (λ b. IsEndedBy (option_map Words (none_for b)) old new runs.0 answer) is runs.1.1 in
    subst (Done input left old new) (sym (its_outcome old new runs.0 answer ended)) runs.1.0

module _ {X : Type 0} (none : X) (old new : Option (List ℕ)) where
  -- where nothing written is a fault, a run that succeeds has written something
  pub some_written : (ran answer : Result ⊤ X) → IsEndedBy (Some none) old new ran answer → OnOk answer (WritesSome true old new)
  some_written (Err why) answer ended = subst (λ a. OnOk a (WritesSome true old new)) (sym ended) tt
  some_written (Ok done) answer ended = by ended.0 ended.1.0 ended.1.1
    where
      by : (wrote : Bool) → WritesSome wrote old new → answer ≡ ended_by (Some none) wrote → OnOk answer (WritesSome true old new)
      by true writes is = subst (λ a. OnOk a (WritesSome true old new)) (sym is) writes
      by false writes is = subst (λ a. OnOk a (WritesSome true old new)) (sym is) tt

  err_is : {why other : X} → ◌≡◌ {A = Result ⊤ X} (Err why) (Err other) → why ≡ other
  err_is e = cc

  no_fault_of : {F : Type 0} (fault : ListFault F → X) → ((why : ListFault F) → fault why ≡ none → ⊥) → (run : Result ⊤ (ListFault F)) → ◌≡◌ {A = Result ⊤ X} (Err none) (answer_of fault run) → ⊥
  no_fault_of fault other (Ok done) e = cc
  no_fault_of fault other (Err why) e = other why (sym (err_is e))

  -- and one with that fault has written nothing
  pub none_written : {F : Type 0} (list : ListRules F) (fault : ListFault F → X) → ((why : ListFault F) → fault why ≡ none → ⊥) → (input left : Option (List ℕ)) (ran answer : Result ⊤ X) → Runs list fault input left old new ran → IsEndedBy (Some none) old new ran answer → answer ≡ Err none → WritesSome false old new
  none_written list fault other input left (Err why) answer runs ended is =
      let same : why ≡ none = err_is (sym ended ∙ is) in
      absurd (no_fault_of fault other runs.0 (subst (λ x. ◌≡◌ {A = Result ⊤ X} (Err x) (answer_of fault runs.0)) same runs.1.1))
  none_written list fault other input left (Ok done) answer runs ended is = by ended.0 ended.1.0 ended.1.1
    where
      by : (wrote : Bool) → WritesSome wrote old new → answer ≡ ended_by (Some none) wrote → WritesSome false old new
      by true writes e = let never : ◌≡◌ {A = Result ⊤ X} (Ok tt) (Err none) = sym e ∙ is in absurd (cc)
      by false writes e = writes
