-- Words of lines: which command and platform they state, and that the option that disregards case states nothing else.
use Rattle.std.proofs.Common.{◌≡◌, ◌≢◌, inl, inr, ℕ, List, [], ◌∷◌, Bool, true, false, ◌↔◌, get_or, refl, sym, ap, ◌∙◌, arith, Some, None}
use Rattle.std.specs.Prelude.{codes, IsTrue}
use Rattle.program_frame.specs.declared.os.Os.{Os}
use Rattle.names_commands.specs.Command.{Fits, HasOperands, Line, MakesUp, MakesUpWork, TakesOption, name_word}
use Rattle.names_commands.specs.declared.command.Command.{Command}
use Rattle.names_commands.specs.declared.command.Command.TheVariants.{Help, Version, On}
use Rattle.names_commands.specs.declared.command.Name.{Name as DeclaredName}
use Rattle.names_commands.specs.declared.command.Name.TheVariants as name
use Rattle.names_commands.specs.declared.command.Work.{Work}
use Rattle.names_commands.specs.declared.command.Work.TheVariants.{Each, Picked, Tar, Why}
use Rattle.names_commands.specs.declared.matching.Form.TheVariants as form
use Rattle.names_commands.specs.declared.option.NamesOption.{NamesOption}
use Rattle.names_commands.specs.declared.option.NamesOption.TheVariants as option
use Rattle.names_commands.specs.declared.task.Task.TheVariants.{ListAll, ListWords, Check, Join, JoinWords}
use Rattle.list_programs.specs.Arguments.{AreValues, HasOption, LastValue, operands_of}
use Rattle.test_command_uses.proofs.GivenWords.{case_flags}

pub first : {x y : List ℕ} {xs ys : List (List ℕ)} → x ∷ xs ≡ y ∷ ys → x ≡ y
first e = cc

pub later : {x y : List ℕ} {xs ys : List (List ℕ)} → x ∷ xs ≡ y ∷ ys → xs ≡ ys
later e = cc

not_list : codes "filter" ≡ codes "list" → ⊥
not_list e =
    let n : 102 ≡ 108 = ap (λ l. get_or l 0 0) e in
    let no : 102 ≢ 108 = omega arith in
    no n

not_why : codes "filter" ≡ codes "why" → ⊥
not_why e =
    let n : 102 ≡ 119 = ap (λ l. get_or l 0 0) e in
    let no : 102 ≢ 119 = omega arith in
    no n

not_join : codes "filter" ≡ codes "join" → ⊥
not_join e =
    let n : 102 ≡ 106 = ap (λ l. get_or l 0 0) e in
    let no : 102 ≢ 106 = omega arith in
    no n

not_check : codes "filter" ≡ codes "check" → ⊥
not_check e =
    let n : 102 ≡ 99 = ap (λ l. get_or l 0 0) e in
    let no : 102 ≢ 99 = omega arith in
    no n

not_tar : codes "filter" ≡ codes "tar" → ⊥
not_tar e =
    let n : 102 ≡ 116 = ap (λ l. get_or l 0 0) e in
    let no : 102 ≢ 116 = omega arith in
    no n

pub not_windows : codes "unix" ≡ codes "windows" → ⊥
not_windows e =
    let n : 117 ≡ 119 = ap (λ l. get_or l 0 0) e in
    let no : 117 ≢ 119 = omega arith in
    no n

pub not_wasm : codes "unix" ≡ codes "wasm" → ⊥
not_wasm e =
    let n : 117 ≡ 119 = ap (λ l. get_or l 0 0) e in
    let no : 117 ≢ 119 = omega arith in
    no n

-- options and operands that begin with the command `filter` make up that command
module _ (given : Line) (more : List (List ℕ)) (starts : operands_of given ≡ codes "filter" ∷ more) where
  is_word : (c : DeclaredName) (os : Os) (rest : List (List ℕ)) → HasOperands given c os rest → codes "filter" ≡ name_word c
  is_word c os rest has = first (sym starts ∙ has.1.0)

  of_work : (os : Os) (work : Work) → MakesUpWork given os work → (work ≡ Picked form.Name) × MakesUpWork given os (Picked form.Name)
  of_work os (Each ListAll) m = absurd (not_list (is_word name.List os m.0.0 m.0.1.0))
  of_work os (Each (ListWords words)) m = absurd (not_list (is_word name.List os m.0.0 m.0.1.0))
  of_work os (Each Check) m = absurd (not_check (is_word name.Check os [] m.0))
  of_work os (Each (Join empty)) m = absurd (not_join (is_word name.Join os [] m.0))
  of_work os (Each JoinWords) m = absurd (not_join (is_word name.Join os [] m.0))
  of_work os Tar m = absurd (not_tar (is_word name.Tar os [] m.0))
  of_work os (Picked form.Line) m = absurd (not_list (is_word name.List os m.0.0 m.0.1.0))
  of_work os (Picked (form.Word words)) m = absurd (not_list (is_word name.List os m.0.0 m.0.1.0))
  of_work os (Picked form.Name) m = (refl, m)
  of_work os Why m = absurd (not_why (is_word name.Why os m.0 m.1.0))

  pub is_filter : (command : Command) → MakesUp given command → (os : Os) × (command ≡ On os (Picked form.Name)) × MakesUpWork given os (Picked form.Name)
  is_filter (On os work) m = let w = of_work os work m in (os, ap (On os) w.0, w.1)
  is_filter Help m = absurd m
  is_filter Version m = absurd m

-- the option that disregards case is no operand, has no value, and is no other option
pub no_case_operand : (folds : Bool) → operands_of (case_flags folds) ≡ []
no_case_operand true = refl
no_case_operand false = refl

pub no_case_value : (folds : Bool) (it : NamesOption) (values : List (List ℕ)) → AreValues it (case_flags folds) values → values ≡ []
no_case_value true it values (inl k) = absurd k.2.0
no_case_value true it values (inr k) = k.1
no_case_value false it values k = k

pub none_in_case : (folds : Bool) (it : NamesOption) → AreValues it (case_flags folds) []
none_in_case true it = inr (λ v h. h, refl)
none_in_case false it = refl

pub no_case_limit : (folds : Bool) → LastValue option.Max (case_flags folds) None None
no_case_limit true = inr (λ v h. h, refl)
no_case_limit false = refl

pub no_limit_in_case : (folds : Bool) (number : List ℕ) → ¬ (LastValue option.Max (case_flags folds) None (Some number))
no_limit_in_case true number (inl k) = k.1.0
no_limit_in_case true number (inr k) = let never : Some number ≡ None = k.1 in cc
no_limit_in_case false number k = let never : Some number ≡ None = k in cc

pub no_other_in_case : (folds : Bool) (it : NamesOption) → (option.IgnoreCase ≡ it → ⊥) → ¬ (HasOption it (case_flags folds))
no_other_in_case true it other (inl h) = other h
no_other_in_case true it other (inr h) = h
no_other_in_case false it other h = h

pub case_fits : (folds : Bool) (command : DeclaredName) → TakesOption command option.IgnoreCase → Fits command (case_flags folds)
case_fits true command takes = (takes, tt)
case_fits false command takes = tt

-- it is given exactly where case is disregarded
pub is_case_given : (folds : Bool) → IsTrue folds ↔ HasOption option.IgnoreCase (case_flags folds)
is_case_given true = (λ e. inl refl, λ h. refl)
is_case_given false = (λ e. let never : false ≡ true = e in absurd (cc), λ h. absurd h)

pub case_is : (folds stated : Bool) → (IsTrue stated ↔ HasOption option.IgnoreCase (case_flags folds)) → stated ≡ folds
case_is true true is = refl
case_is true false is = let never : false ≡ true = is.1 (inl refl) in absurd (cc)
case_is false true is = absurd (is.0 refl)
case_is false false is = refl
