-- Items that aren't names.
use Rattle.std.proofs.Common.{◌≡◌, Bool, ℕ, List, sym, subst, arith}
use Rattle.std.specs.Prelude.{Result, IfErr, ⊤}
use Rattle.std.proofs.lemmas.Result.{IfErr-weaker}
use Rattle.os_str_bytes.specs.Platform.{Ghosts}
use Rattle.list_programs.specs.Rules.{ListRules, IsItemFault}
use Rattle.list_programs.specs.declared.fault.ItemFault.{ItemFault}
use Rattle.list_programs.specs.declared.fault.ItemFault.TheVariants.{Rejected, TooLong, Memory}
use Rattle.names_commands.specs.declared.fault.Rejection.{Rejection}
use Rattle.list_programs.specs.declared.options.ListOptions.{ListOptions}
use Rattle.names_commands.specs.Task.{rules_of}
use Rattle.names_commands.specs.Words.{IsLineFault}
use Rattle.names_commands.specs.declared.task.Task.TheVariants.{JoinWords}
use Rattle.names_commands.specs.Names.{IsFit, IsListRejection, IsNoName}
use Rattle.list_programs.proofs.lemmas.Lines.{IsPlainLine, plain_lacks}
use Rattle.list_programs.specs.declared.options.ItemEnd.{ItemEnd}
use Rattle.list_programs.specs.declared.options.ItemEnd.TheVariants.{Nul, Newline}

module _ {E : Type 0} (p : Ghosts E) (from_top : Bool) (rules : ListRules Rejection) (item : List ℕ) (same : (why : Rejection) → IsListRejection p from_top item why → rules.rejects item why) where
  -- nothing is written for an item that isn't a name, where that is why items are rejected
  pub no_item : (fault : ItemFault Rejection) → IsNoName p from_top item fault → IsItemFault rules item fault
  no_item (Rejected why) h = same why h
  no_item TooLong h = absurd h
  no_item Memory h = tt

  pub no_items : (answer : Result ⊤ (ItemFault Rejection)) → IfErr answer (IsNoName p from_top item) → IfErr answer (IsItemFault rules item)
  no_items answer h = IfErr-weaker answer _ _ no_item h

-- an allocation may fail
pub memory_fault : (rules : ListRules Rejection) (item : List ℕ) (fault : ItemFault Rejection) → fault ≡ Memory → IsItemFault rules item fault
memory_fault rules item fault is = subst (IsItemFault rules item) (sym is) tt

pub memory_name : {E : Type 0} (p : Ghosts E) (from_top : Bool) (item : List ℕ) (fault : ItemFault Rejection) → fault ≡ Memory → IsNoName p from_top item fault
memory_name p from_top item fault is = subst (IsNoName p from_top item) (sym is) tt

-- a plain line can be written with either end
pub plain_fits : (end : ItemEnd) (line : List ℕ) → IsPlainLine line → IsFit end line
plain_fits Nul line plain = record { whole = plain_lacks 0 (omega arith) line plain; one = plain_lacks 0 (omega arith) line plain }
plain_fits Newline line plain = record { whole = plain_lacks 0 (omega arith) line plain; one = plain_lacks 0x0A (omega arith) line plain }

-- why nothing is written for a line of words is why the item is rejected
pub words_item : {E : Type 0} (p : Ghosts E) (list : ListOptions) (line : List ℕ) (fault : ItemFault Rejection) → IsLineFault list line fault → IsItemFault (rules_of p (record { task = JoinWords; list = list })) line fault
words_item p list line (Rejected why) h = h
words_item p list line TooLong h = h
words_item p list line Memory h = tt
