-- Arguments are read in one way: as one list of options and operands, or with a fault.
use Rattle.std.proofs.Common.{◌≡◌, inl, inr, ◌∙◌, ℕ, ◌+◌, List, [], ◌∷◌, ◌++◌, Option, Some, None, Result, Ok, Err, get_or, refl, sym, ap, subst, arith}
use Rattle.std.specs.Prelude.{Bool, true, false}
use Rattle.os_args.specs.Word.{Kind, Long, LongBytes, Short, ShortBytes, Value}
use Rattle.os_args.specs.Reading.{Fault, Reading, TakesWord}
use Rattle.os_args.proofs.lemmas.OneOutcome.{one_word}
use Rattle.list_programs.specs.Arguments.{AreGiven, FailsAt, HasFault, HasOption, IsOption, Takes, TakesAll, operands_of, unread}
use Rattle.list_programs.specs.ListOptions.{AreStated, IsEnd, IsLast}
use Rattle.list_programs.specs.declared.arguments.Given.{Given}
use Rattle.list_programs.specs.declared.arguments.Given.TheVariants.{Operand, Flag, Valued}
use Rattle.list_programs.specs.declared.options.ItemEnd.{ItemEnd}
use Rattle.list_programs.specs.declared.options.ItemEnd.TheVariants.{Nul, Newline}
use Rattle.list_programs.specs.declared.options.LastItem.{LastItem}
use Rattle.list_programs.specs.declared.options.LastItem.TheVariants.{MustEnd, MayLackEnd}
use Rattle.list_programs.specs.declared.options.ListOptions.{ListOptions}
use Rattle.paths_commands.specs.Command.{AreAfterEnd, AreRead, IsRequestFor, HasOperands, Line, RequestNothing, RequestsNothing, longest_path}
use Rattle.paths_commands.specs.Task.{name_of as name_of_task, operands_of_task}
use Rattle.paths_commands.specs.declared.command.Name.{Name as DeclaredName}
use Rattle.program_frame.specs.declared.os.Os.{Os}
use Rattle.paths_commands.specs.Options.{IsFlagOf, has_value, name_of, spelled}
use Rattle.paths_commands.specs.declared.command.Command.{Command}
use Rattle.paths_commands.specs.declared.command.Command.TheVariants.{Ask, Help as HelpCommand, Version as VersionCommand}
use Rattle.paths_commands.specs.declared.option.PathsOption.{PathsOption}
use Rattle.paths_commands.specs.declared.option.PathsOption.TheVariants.{Help, Version, Checked, KeepSeparator, KeepGoing, Lines, Unterminated}

-- the sum of the first letter of the option's name and the sixth
abbrev letters : PathsOption → ℕ
letters Help = 104
letters Version = 229
letters Checked = 200
letters KeepSeparator = 222
letters KeepGoing = 210
letters Lines = 108
letters Unterminated = 226

letters_are : (option : PathsOption) → letters option ≡ get_or (name_of option) 0 0 + get_or (name_of option) 5 0
letters_are Help = refl
letters_are Version = refl
letters_are Checked = refl
letters_are KeepSeparator = refl
letters_are KeepGoing = refl
letters_are Lines = refl
letters_are Unterminated = refl

same_letters : (option other : PathsOption) → name_of option ≡ name_of other → letters option ≡ letters other
same_letters option other e = letters_are option ∙ ap (λ name. get_or name 0 0 + get_or name 5 0) e ∙ sym (letters_are other)

same_option : (option other : PathsOption) → name_of option ≡ name_of other → option ≡ other
same_option Help Help e = refl
same_option Version Version e = refl
same_option Checked Checked e = refl
same_option KeepSeparator KeepSeparator e = refl
same_option KeepGoing KeepGoing e = refl
same_option Lines Lines e = refl
same_option Unterminated Unterminated e = refl
same_option Help other e = let sums = same_letters Help other e in absurd (omega arith)
same_option Version other e = let sums = same_letters Version other e in absurd (omega arith)
same_option Checked other e = let sums = same_letters Checked other e in absurd (omega arith)
same_option KeepSeparator other e = let sums = same_letters KeepSeparator other e in absurd (omega arith)
same_option KeepGoing other e = let sums = same_letters KeepGoing other e in absurd (omega arith)
same_option Lines other e = let sums = same_letters Lines other e in absurd (omega arith)
same_option Unterminated other e = let sums = same_letters Unterminated other e in absurd (omega arith)

same_flag : (option other : PathsOption) (c : ℕ) → IsFlagOf option c → IsFlagOf other c → option ≡ other
same_flag Help Help c is of_other = refl
same_flag Help Version c is of_other = let same : ◌≡◌ {A = ℕ} 104 86 = sym is ∙ of_other in absurd (omega arith)
same_flag Help Checked c is of_other = absurd of_other
same_flag Help KeepSeparator c is of_other = absurd of_other
same_flag Help KeepGoing c is of_other = absurd of_other
same_flag Version Help c is of_other = let same : ◌≡◌ {A = ℕ} 86 104 = sym is ∙ of_other in absurd (omega arith)
same_flag Version Version c is of_other = refl
same_flag Version Checked c is of_other = absurd of_other
same_flag Version KeepSeparator c is of_other = absurd of_other
same_flag Version KeepGoing c is of_other = absurd of_other
same_flag Help Lines c is of_other = absurd of_other
same_flag Help Unterminated c is of_other = absurd of_other
same_flag Version Lines c is of_other = absurd of_other
same_flag Version Unterminated c is of_other = absurd of_other
same_flag Checked other c is of_other = absurd is
same_flag KeepSeparator other c is of_other = absurd is
same_flag KeepGoing other c is of_other = absurd is
same_flag Lines other c is of_other = absurd is
same_flag Unterminated other c is of_other = absurd is

-- an argument is one option
one_option : (option other : PathsOption) (kind : Kind) → spelled option kind → spelled other kind → option ≡ other
one_option option other (Long name) is of_other = same_option option other (sym is ∙ of_other)
one_option option other (LongBytes name) is of_other = absurd is
one_option option other (Short c) is of_other = same_flag option other c is of_other
one_option option other (ShortBytes rest) is of_other = absurd is
one_option option other (Value value) is of_other = absurd is

same_kind : {kind other : Kind} → ◌≡◌ {A = Result (Option Kind) Fault} (Ok (Some kind)) (Ok (Some other)) → kind ≡ other
same_kind e = cc

not_none : {kind : Kind} → ◌≡◌ {A = Result (Option Kind) Fault} (Ok (Some kind)) (Ok None) → ⊥
not_none e = cc

not_fault : {read : Option Kind} {fault : Fault} → ◌≡◌ {A = Result (Option Kind) Fault} (Ok read) (Err fault) → ⊥
not_fault e = cc

same_value : {value other : List ℕ} → Value value ≡ Value other → value ≡ other
same_value e = cc

-- an option or operand like another: with the text of the operand
abbrev IsAlike : Given PathsOption → Given PathsOption → Type 0
IsAlike (Operand word) (Operand other) = word.now ≡ other.now
IsAlike (Operand word) (Flag other) = ⊥
IsAlike (Operand word) (Valued other value) = ⊥
IsAlike (Flag option) (Operand other) = ⊥
IsAlike (Flag option) (Flag other) = option ≡ other
IsAlike (Flag option) (Valued other value) = ⊥
IsAlike (Valued option value) other = ⊥

abbrev AreAlike : Line → Line → Type 0
AreAlike [] [] = Unit {0}
AreAlike [] (other ∷ others) = ⊥
AreAlike (one ∷ given) [] = ⊥
AreAlike (one ∷ given) (other ∷ others) = IsAlike one other × AreAlike given others

no_true : ◌≡◌ {A = Bool} false true → ⊥
no_true e = cc

takes_once : (before after left : Reading) (one other : Given PathsOption) → Takes spelled has_value before one after → Takes spelled has_value before other left → IsAlike one other × (after ≡ left)
takes_once before after left (Operand word) (Operand other) takes also =
    let same = one_word before (Ok (Some (Value word.now))) (Ok (Some (Value other.now))) after left takes also in (same_value (same_kind same.0), same.1)
takes_once before after left (Operand word) (Flag other) takes also =
    let same = one_word before (Ok (Some (Value word.now))) (Ok (Some also.0)) after left takes also.1.1 in absurd (subst (spelled other) (sym (same_kind same.0)) also.1.0.0)
takes_once before after left (Flag option) (Operand other) takes also =
    let same = one_word before (Ok (Some takes.0)) (Ok (Some (Value other.now))) after left takes.1.1 also in absurd (subst (spelled option) (same_kind same.0) takes.1.0.0)
takes_once before after left (Flag option) (Flag other) takes also =
    let same = one_word before (Ok (Some takes.0)) (Ok (Some also.0)) after left takes.1.1 also.1.1 in
    (one_option option other also.0 (subst (spelled option) (same_kind same.0) takes.1.0.0) also.1.0.0, same.1)
takes_once before after left (Valued option value) other takes also = absurd (no_true takes.2.0.1)
takes_once before after left (Operand word) (Valued other value) takes also = absurd (no_true also.2.0.1)
takes_once before after left (Flag option) (Valued other value) takes also = absurd (no_true also.2.0.1)

-- an option or operand isn't read where none is left
takes_some : (before after left : Reading) (one : Given PathsOption) → Takes spelled has_value before one after → TakesWord before (Ok None) left → ⊥
takes_some before after left (Operand word) takes none = not_none (one_word before (Ok (Some (Value word.now))) (Ok None) after left takes none).0
takes_some before after left (Flag option) takes none = not_none (one_word before (Ok (Some takes.0)) (Ok None) after left takes.1.1 none).0
takes_some before after left (Valued option value) takes none = no_true takes.2.0.1

-- nor where reading fails
takes_or_fails : (before after : Reading) (one : Given PathsOption) (fault : Fault) → Takes spelled has_value before one after → FailsAt spelled has_value before fault → ⊥
takes_or_fails before after (Operand word) fault takes (inl value) = not_fault (one_word before (Ok (Some (Value word.now))) (Err fault) after value.0 takes value.1).0
takes_or_fails before after (Flag option) fault takes (inl value) = not_fault (one_word before (Ok (Some takes.0)) (Err fault) after value.0 takes.1.1 value.1).0
takes_or_fails before after (Valued option value) fault takes fails = no_true takes.2.0.1
takes_or_fails before after (Operand word) fault takes (inr (inl unknown)) =
    subst IsOption (sym (same_kind (one_word before (Ok (Some (Value word.now))) (Ok (Some unknown.kind)) after unknown.after takes unknown.taken).0)) unknown.option
takes_or_fails before after (Flag option) fault takes (inr (inl unknown)) =
    unknown.unknown option (subst (spelled option) (same_kind (one_word before (Ok (Some takes.0)) (Ok (Some unknown.kind)) after unknown.after takes.1.1 unknown.taken).0) takes.1.0.0)
takes_or_fails before after (Operand word) fault takes (inr (inr lacks)) = no_true lacks.valued
takes_or_fails before after (Flag option) fault takes (inr (inr lacks)) = no_true lacks.valued

-- reading doesn't fail where nothing is left
ends_or_fails : (before after : Reading) (fault : Fault) → TakesWord before (Ok None) after → FailsAt spelled has_value before fault → ⊥
ends_or_fails before after fault none (inl value) = not_fault {read = None} (one_word before (Ok None) (Err fault) after value.0 none value.1).0
ends_or_fails before after fault none (inr (inl unknown)) = not_none (one_word before (Ok (Some unknown.kind)) (Ok None) unknown.after after unknown.taken none).0
ends_or_fails before after fault none (inr (inr lacks)) = no_true lacks.valued

all_once : (given other : Line) (before read left after end : Reading) → TakesAll spelled has_value before given read → TakesWord read (Ok None) after
    → TakesAll spelled has_value before other left → TakesWord left (Ok None) end → AreAlike given other
all_once [] [] before read left after end all none also none_left = tt
all_once [] (other ∷ others) before read left after end all none also none_left =
    absurd (takes_some before also.0 after other also.1 (subst (λ r. TakesWord r (Ok None) after) all none))
all_once (one ∷ given) [] before read left after end all none also none_left =
    absurd (takes_some before all.0 end one all.1 (subst (λ r. TakesWord r (Ok None) end) also none_left))
all_once (one ∷ given) (other ∷ others) before read left after end all none also none_left =
    let same = takes_once before all.0 also.0 one other all.1 also.1 in
    (same.0, all_once given others also.0 read left after end (subst (λ r. TakesAll spelled has_value r given read) same.1 all.2) none also.2 none_left)

given_or_fails : (given some : Line) (before read at after : Reading) (fault : Fault) → TakesAll spelled has_value before given read → TakesWord read (Ok None) after
    → TakesAll spelled has_value before some at → FailsAt spelled has_value at fault → ⊥
given_or_fails [] [] before read at after fault all none also fails =
    ends_or_fails before after fault (subst (λ r. TakesWord r (Ok None) after) all none) (subst (λ r. FailsAt spelled has_value r fault) also fails)
given_or_fails [] (other ∷ others) before read at after fault all none also fails =
    takes_some before also.0 after other also.1 (subst (λ r. TakesWord r (Ok None) after) all none)
given_or_fails (one ∷ given) [] before read at after fault all none also fails =
    takes_or_fails before all.0 one fault all.1 (subst (λ r. FailsAt spelled has_value r fault) also fails)
given_or_fails (one ∷ given) (other ∷ others) before read at after fault all none also fails =
    let same = takes_once before all.0 also.0 one other all.1 also.1 in
    given_or_fails given others also.0 read at after fault (subst (λ r. TakesAll spelled has_value r given read) same.1 all.2) none also.2 fails

alike_operands : (given other : Line) → AreAlike given other → operands_of given ≡ operands_of other
alike_operands [] [] alike = refl
alike_operands [] (other ∷ others) alike = absurd alike
alike_operands (one ∷ given) [] alike = absurd alike
alike_operands (Operand word ∷ given) (Operand other ∷ others) alike =
    let more = alike_operands given others alike.1 in let same : word.now ≡ other.now = alike.0 in cc
alike_operands (Operand word ∷ given) (Flag other ∷ others) alike = absurd alike.0
alike_operands (Operand word ∷ given) (Valued other value ∷ others) alike = absurd alike.0
alike_operands (Flag option ∷ given) (Operand other ∷ others) alike = absurd alike.0
alike_operands (Flag option ∷ given) (Flag other ∷ others) alike = alike_operands given others alike.1
alike_operands (Flag option ∷ given) (Valued other value ∷ others) alike = absurd alike.0
alike_operands (Valued option value ∷ given) (other ∷ others) alike = absurd alike.0

alike_option : (option : PathsOption) (given other : Line) → AreAlike given other → HasOption option given → HasOption option other
alike_option option [] [] alike has = absurd has
alike_option option [] (other ∷ others) alike has = absurd alike
alike_option option (one ∷ given) [] alike has = absurd alike
alike_option option (one ∷ given) (other ∷ others) alike (inr more) = inr (alike_option option given others alike.1 more)
alike_option option (Operand word ∷ given) (other ∷ others) alike (inl is) = absurd is
alike_option option (Flag one ∷ given) (Operand other ∷ others) alike (inl is) = absurd alike.0
alike_option option (Flag one ∷ given) (Flag other ∷ others) alike (inl is) = inl (sym alike.0 ∙ is)
alike_option option (Flag one ∷ given) (Valued other value ∷ others) alike (inl is) = absurd alike.0
alike_option option (Valued one value ∷ given) (other ∷ others) alike (inl is) = absurd alike.0

alike_back : (given other : Line) → AreAlike given other → AreAlike other given
alike_back [] [] alike = tt
alike_back [] (other ∷ others) alike = absurd alike
alike_back (one ∷ given) [] alike = absurd alike
alike_back (Operand word ∷ given) (Operand other ∷ others) alike = (sym alike.0, alike_back given others alike.1)
alike_back (Operand word ∷ given) (Flag other ∷ others) alike = absurd alike.0
alike_back (Operand word ∷ given) (Valued other value ∷ others) alike = absurd alike.0
alike_back (Flag option ∷ given) (Operand other ∷ others) alike = absurd alike.0
alike_back (Flag option ∷ given) (Flag other ∷ others) alike = (sym alike.0, alike_back given others alike.1)
alike_back (Flag option ∷ given) (Valued other value ∷ others) alike = absurd alike.0
alike_back (Valued option value ∷ given) (other ∷ others) alike = absurd alike.0

module _ (given other : Line) (alike : AreAlike given other) where
  has : (option : PathsOption) → HasOption option given → HasOption option other
  has option = alike_option option given other alike

  had : (option : PathsOption) → HasOption option other → HasOption option given
  had option = alike_option option other given (alike_back given other alike)

  alike_end : (end : ItemEnd) → IsEnd Lines given end → IsEnd Lines other end
  alike_end Nul is = λ lines. is (had Lines lines)
  alike_end Newline is = has Lines is

  alike_last : (last : LastItem) → IsLast Unterminated given last → IsLast Unterminated other last
  alike_last MustEnd is = λ unterminated. is (had Unterminated unterminated)
  alike_last MayLackEnd is = has Unterminated is

  alike_list : (list : ListOptions) → AreStated Lines Unterminated longest_path given list → AreStated Lines Unterminated longest_path other list
  alike_list list are = record { end = alike_end list.end are.end; last = alike_last list.last are.last; limit = are.limit }

  alike_has : (after_end : ℕ) (it : DeclaredName) (os : Os) (more : List (List ℕ)) → HasOperands after_end given it os more → HasOperands after_end other it os more
  alike_has after_end it os more (inl has) = inl (sym (alike_operands given other alike) ∙ has.0, has.1)
  alike_has after_end it os more (inr has) = inr (sym (alike_operands given other alike) ∙ has.0, has.1)

  alike_request : (after_end : ℕ) (command : Command) → IsRequestFor after_end given command → IsRequestFor after_end other command
  alike_request after_end HelpCommand requests = has Help requests
  alike_request after_end VersionCommand requests = ((λ help. requests.0 (had Help help)), has Version requests.1)
  alike_request after_end (Ask task os list keeps_going paths) requests = (
    ((λ help. requests.0.0 (had Help help)), (λ version. requests.0.1 (had Version version))),
    (
      (alike_has after_end (name_of_task task) os (operands_of_task task ++ operands_of paths.now) requests.1.0.0, requests.1.0.1),
      (
        (
          ((λ is. has Checked (requests.1.1.0.0.0 is)), (λ checked. requests.1.1.0.0.1 (had Checked checked))),
          ((λ is. has KeepSeparator (requests.1.1.0.1.0 is)), (λ kept. requests.1.1.0.1.1 (had KeepSeparator kept))),
        ),
        (
          requests.1.1.1.0,
          (
            ((λ going. has KeepGoing (requests.1.1.1.1.0.0 going)), (λ going. requests.1.1.1.1.0.1 (had KeepGoing going))),
            alike_list list requests.1.1.1.1.1,
          ),
        ),
      ),
    ),
  )

-- one number of arguments comes after the first `--`
one_after_end : (words : List (List ℕ)) (count other : ℕ) → AreAfterEnd words count → AreAfterEnd words other → count ≡ other
one_after_end [] count other is also = is ∙ sym also
one_after_end (word ∷ words) count other (inl is) (inl also) = is.1 ∙ sym also.1
one_after_end (word ∷ words) count other (inl is) (inr also) = absurd (also.0 is.0)
one_after_end (word ∷ words) count other (inr is) (inl also) = absurd (is.0 also.0)
one_after_end (word ∷ words) count other (inr is) (inr also) = one_after_end words count other is.1 also.1

-- if the options and operands request nothing, then the arguments do
pub none_requested : (words : List (List ℕ)) (after_end : ℕ) (given : Line) → AreRead words after_end given → RequestsNothing after_end given → RequestNothing words
none_requested words after_end given are nothing count other also command requests =
    let alike = all_once other given (unread words) _ _ _ _ also.0.are also.0.end are.0.are are.0.end in
    nothing command (alike_request other given alike after_end command (subst (λ n. IsRequestFor n other command) (one_after_end words count after_end also.1 are.1) requests))

-- arguments with a fault aren't options and operands
pub none_given : (words : List (List ℕ)) (fault : Fault) (given : Line) → HasFault spelled has_value words fault → AreGiven spelled has_value words given → ⊥
none_given words fault given faulty are = given_or_fails given faulty.given (unread words) _ _ _ fault are.are are.end faulty.are faulty.fails
