-- Options and operands that make up a command have nothing wrong with them.
use Rattle.std.proofs.Common.{◌≡◌, ◌⊎◌, ⊎_elim, ℕ, nat_eq, cond, List, [], ◌∷◌, get_or, Bool, true, false, Option, Some, None, inl, inr, refl, sym, ap, ◌∙◌, subst}
use Rattle.std.specs.List.{AllByRecursion}
use Rattle.list_programs.specs.Arguments.{AreValues, HasOption, HasValue, IsOf, LastValue}
use Rattle.program_frame.specs.Os.{os_word}
use Rattle.list_programs.specs.declared.arguments.Given.{Given}
use Rattle.list_programs.specs.declared.arguments.Given.TheVariants.{Operand, Flag, Valued}
use Rattle.list_programs.specs.declared.misuse.Misuse as misuse
use Rattle.list_programs.specs.declared.misuse.Misuse.TheVariants.{Argument, Missing, Invalid, Misplaced}
use Rattle.program_frame.specs.declared.os.Os.{Os}
use Rattle.program_frame.specs.declared.os.Os.TheVariants.{Unix, Windows, Wasm}
use Rattle.names_commands.specs.Command.{Requested, IsRequestFor, AtMostOne, Fits, FitsOne, HasOperands, IsForPlatform, IsInvalid, IsLimit, IsListed, IsMax, IsMisplaced, IsMissing, IsMisuse, IsTooMany, Line, Lists, MakesUp, MakesUpWork, NoWords, Picks, SomeMatch, SomePicked, StatesPicks, TakesOption, name_word}
use Rattle.names_commands.specs.Ignoring.{IsPlaced}
use Rattle.names_commands.specs.Operands.{HasPlatform, LacksPlatform}
use Rattle.names_commands.specs.Pick.{TakesIgnore}
use Rattle.names_commands.specs.declared.command.Command.{Command}
use Rattle.names_commands.specs.declared.command.Command.TheVariants.{Help, Version, On}
use Rattle.names_commands.specs.declared.command.Name.{Name}
use Rattle.names_commands.specs.declared.command.Name.TheVariants as name
use Rattle.names_commands.specs.declared.command.Work.{Work}
use Rattle.names_commands.specs.declared.command.Work.TheVariants.{Each, Picked, Tar, Why}
use Rattle.names_commands.specs.declared.matching.Form.TheVariants as form
use Rattle.names_commands.specs.declared.option.NamesOption.{NamesOption}
use Rattle.names_commands.specs.declared.option.NamesOption.TheVariants as option
use Rattle.names_commands.specs.declared.task.Task.TheVariants.{ListAll, ListWords, Check, Join, JoinWords}
use Rattle.names_commands.proofs.lemmas.Commands.{none_picked}
use Rattle.names_commands.proofs.lemmas.Placed.{value_in}

head_is : {X : Type 0} {x y : X} {xs ys : List X} → x ∷ xs ≡ y ∷ ys → x ≡ y
head_is e = cc

tail_is : {X : Type 0} {x y : X} {xs ys : List X} → x ∷ xs ≡ y ∷ ys → xs ≡ ys
tail_is e = cc

not_nil : {X : Type 0} {x : X} {xs : List X} → [] ≡ x ∷ xs → ⊥
not_nil e = cc

-- a command is that of its word's first letter, and a platform that of the second
abbrev name_at : ℕ → Name
name_at letter = cond (nat_eq letter 108) name.List (cond (nat_eq letter 102) name.Filter (cond (nat_eq letter 119) name.Why (cond (nat_eq letter 106) name.Join (cond (nat_eq letter 116) name.Tar name.Check))))

name_back : (c : Name) → name_at (get_or (name_word c) 0 0) ≡ c
name_back name.List = refl
name_back name.Filter = refl
name_back name.Why = refl
name_back name.Join = refl
name_back name.Check = refl
name_back name.Tar = refl

pub one_name : (c d : Name) → name_word c ≡ name_word d → c ≡ d
one_name c d e = sym (name_back c) ∙ ap (λ word. name_at (get_or word 0 0)) e ∙ name_back d

abbrev os_at : ℕ → Os
os_at letter = cond (nat_eq letter 110) Unix (cond (nat_eq letter 105) Windows Wasm)

os_back : (a : Os) → os_at (get_or (os_word a) 1 0) ≡ a
os_back Unix = refl
os_back Windows = refl
os_back Wasm = refl

pub one_os : (a b : Os) → os_word a ≡ os_word b → a ≡ b
one_os a b e = sym (os_back a) ∙ ap (λ word. os_at (get_or word 1 0)) e ∙ os_back b

one_platform : (after : List (List ℕ)) (os other : Os) (more rest : List (List ℕ)) → HasPlatform after os more → HasPlatform after other rest → (os ≡ other) × (more ≡ rest)
one_platform after os other more rest (inl h) (inl k) = let same = sym h ∙ k in (one_os os other (head_is same), tail_is same)
one_platform after os other more rest (inl h) (inr k) = absurd (subst LacksPlatform h k.1.0 os refl)
one_platform after os other more rest (inr h) (inl k) = absurd (subst LacksPlatform k h.1.0 other refl)
one_platform after os other more rest (inr h) (inr k) = (h.0 ∙ sym k.0, sym h.1.1 ∙ k.1.1)

-- operands are those of one command on one platform
pub one_command : (given : Line) (c d : Name) (os other : Os) (more rest : List (List ℕ)) → HasOperands given c os more → HasOperands given d other rest → (c ≡ d) × ((os ≡ other) × (more ≡ rest))
one_command given c d os other more rest h k =
    let same = sym h.1.0 ∙ k.1.0 in
    (one_name c d (head_is same), one_platform k.0 os other more rest (subst (λ after. HasPlatform after os more) (tail_is same) h.1.1) k.1.1)

-- the last value of an option is one
module _ (it : NamesOption) where
  one_here : (one : Given NamesOption) (a b : List ℕ) → HasValue it one a → HasValue it one b → a ≡ b
  one_here (Operand word) a b h k = absurd h
  one_here (Flag other) a b h k = absurd h
  one_here (Valued other value) a b h k = sym h.1 ∙ k.1

  pub one_last : (given : Line) (before a b : Option (List ℕ)) → LastValue it given before a → LastValue it given before b → a ≡ b
  one_last [] before a b h k = h ∙ sym k
  one_last (one ∷ given) before a b (inl h) (inl k) = one_last given (Some k.0) a b (subst (λ v. LastValue it given (Some v) a) (one_here one h.0 k.0 h.1.0 k.1.0) h.1.1) k.1.1
  one_last (one ∷ given) before a b (inl h) (inr k) = absurd (k.0 h.0 h.1.0)
  one_last (one ∷ given) before a b (inr h) (inl k) = absurd (h.0 k.0 k.1.0)
  one_last (one ∷ given) before a b (inr h) (inr k) = one_last given before a b h.1 k.1

-- a command takes each option that is given, where all fit
one_fits : (command : Name) (one : Given NamesOption) → FitsOne command one → (it : NamesOption) → IsOf it one → TakesOption command it
one_fits command (Operand word) f it is = absurd is
one_fits command (Flag other) f it is = subst (TakesOption command) is f
one_fits command (Valued other value) f it is = subst (TakesOption command) is f

pub all_fit : (command : Name) (given : Line) → Fits command given → (it : NamesOption) → HasOption it given → TakesOption command it
all_fit command [] f it h = absurd h
all_fit command (one ∷ given) f it (inl is) = one_fits command one f.0 it is
all_fit command (one ∷ given) f it (inr h) = all_fit command given f.1 it h

-- what is so where options and operands make up a command
record IsMade (given : Line) : Type 0 where
  pub command : Name
  pub os : Os
  pub more : List (List ℕ)
  pub operands : HasOperands given command os more
  pub fits : Fits command given
  pub few : (TakesOption command option.Glob × AtMostOne more) ⊎ ((¬ (TakesOption command option.Glob)) × (more ≡ []))
  pub needs : command ≡ name.Filter → SomePicked given more
  pub turns : HasOption option.Invert given → SomeMatch given more
  pub states : command ≡ name.Why → SomePicked given more
  pub for_platform : (it : NamesOption) → HasOption it given → IsForPlatform os it

few_picked : (given : Line) (os : Os) (more : List (List ℕ)) (picks : Bool) → Picks given os more picks → AtMostOne more
few_picked given os more false n = subst AtMostOne (sym (none_picked given more n.0)) tt
few_picked given os more true p = p.0

ignores_of : (given : Line) (os : Os) (more : List (List ℕ)) (picks : Bool) → Picks given os more picks → HasOption option.Ignore given → TakesIgnore os
ignores_of given os more false n h = absurd (n.0 (inl (inr (inr (inl h)))))
ignores_of given os more true p h = p.1.1.1 h

turns_of : (given : Line) (os : Os) (more : List (List ℕ)) (picks : Bool) → Picks given os more picks → HasOption option.Invert given → SomeMatch given more
turns_of given os more false n h = absurd (n.1 h)
turns_of given os more true p h = p.1.1.0 h

no_words : (command : Name) (given : Line) → Fits command given → (TakesOption command option.Sh → ⊥) → (TakesOption command option.ShLine → ⊥) → NoWords given
no_words command given f a b = (λ h. a (all_fit command given f option.Sh h), λ h. b (all_fit command given f option.ShLine h))

plain : (os : Os) (given : Line) → NoWords given → (HasOption option.Ignore given → TakesIgnore os) → (it : NamesOption) → HasOption it given → IsForPlatform os it
plain os given none ignores option.Help h = tt
plain os given none ignores option.Version h = tt
plain os given none ignores option.Max h = tt
plain os given none ignores option.Sh h = absurd (none.0 h)
plain os given none ignores option.ShLine h = absurd (none.1 h)
plain os given none ignores option.Lines h = tt
plain os given none ignores option.Unterminated h = tt
plain os given none ignores option.Empty h = tt
plain os given none ignores option.Glob h = tt
plain os given none ignores option.Name h = tt
plain os given none ignores option.Ignore h = ignores h
plain os given none ignores option.Invert h = tt
plain os given none ignores option.IgnoreCase h = tt
plain os given none ignores option.Exclude h = tt
plain os given none ignores option.GlobsFrom h = tt
plain os given none ignores option.ExitStatus h = tt

on_unix : (it : NamesOption) → IsForPlatform Unix it
on_unix option.Help = tt
on_unix option.Version = tt
on_unix option.Max = tt
on_unix option.Sh = refl
on_unix option.ShLine = refl
on_unix option.Lines = tt
on_unix option.Unterminated = tt
on_unix option.Empty = tt
on_unix option.Glob = tt
on_unix option.Name = tt
on_unix option.Ignore = tt
on_unix option.Invert = tt
on_unix option.IgnoreCase = tt
on_unix option.Exclude = tt
on_unix option.GlobsFrom = tt
on_unix option.ExitStatus = tt

for_words : (os : Os) (given : Line) → os ≡ Unix → (it : NamesOption) → HasOption it given → IsForPlatform os it
for_words os given unix it h = subst (λ o. IsForPlatform o it) (sym unix) (on_unix it)

module _ (given : Line) (os : Os) where
  -- `list`, whatever its form
  lists : (picks : Bool) → Lists given os picks → ((it : NamesOption) → HasOption it given → IsForPlatform os it) → IsMade given
  lists picks l fit = record {
    command = name.List;
    os = os;
    more = l.0;
    operands = l.1.0;
    fits = l.1.1.0;
    few = inl (tt, few_picked given os l.0 picks l.1.1.1);
    needs = λ e. cc;
    turns = turns_of given os l.0 picks l.1.1.1;
    states = λ e. cc;
    for_platform = fit;
  }

  lists_plain : (picks : Bool) → Lists given os picks → NoWords given → IsMade given
  lists_plain picks l none = lists picks l (plain os given none (ignores_of given os l.0 picks l.1.1.1))

  -- a command that takes no pattern
  bare : (command : Name) → HasOperands given command os [] → Fits command given → ¬ (TakesOption command option.Glob) → (command ≡ name.Filter → ⊥) → (TakesOption command option.Invert → ⊥) → (command ≡ name.Why → ⊥) → ((it : NamesOption) → HasOption it given → IsForPlatform os it) → IsMade given
  bare command operands fits no_glob no_filter no_invert no_why fit = record {
    command = command;
    os = os;
    more = [];
    operands = operands;
    fits = fits;
    few = inr (no_glob, refl);
    needs = λ e. absurd (no_filter e);
    turns = λ h. absurd (no_invert (all_fit command given fits option.Invert h));
    states = λ e. absurd (no_why e);
    for_platform = fit;
  }

  -- a command that is about the names that are picked
  of_picked : (command : Name) → TakesOption command option.Glob → (TakesOption command option.Sh → ⊥) → (TakesOption command option.ShLine → ⊥) → (more : List (List ℕ)) × (HasOperands given command os more × (Fits command given × Picks given os more true)) → IsMade given
  of_picked command glob no_sh no_sh_line m = record {
    command = command;
    os = os;
    more = m.0;
    operands = m.1.0;
    fits = m.1.1.0;
    few = inl (glob, m.1.1.1.0);
    needs = λ e. m.1.1.1.1.0;
    turns = m.1.1.1.1.1.0;
    states = λ e. m.1.1.1.1.0;
    for_platform = plain os given (no_words command given m.1.1.0 no_sh no_sh_line) m.1.1.1.1.1.1;
  }

  made_work : (work : Work) → MakesUpWork given os work → IsMade given
  made_work (Each ListAll) m = lists_plain false m.0 m.1
  made_work (Each (ListWords words)) m = lists false m.0 (for_words os given m.1.0)
  made_work (Each Check) m = bare name.Check m.0 m.1 (λ t. t) (λ e. cc) (λ t. t) (λ e. cc) (plain os given (no_words name.Check given m.1 (λ t. t) (λ t. t)) (λ h. absurd (all_fit name.Check given m.1 option.Ignore h)))
  made_work (Each (Join empty)) m = bare name.Join m.0 m.1.0 (λ t. t) (λ e. cc) (λ t. t) (λ e. cc) (plain os given m.1.1.0 (λ h. absurd (all_fit name.Join given m.1.0 option.Ignore h)))
  made_work (Each JoinWords) m = bare name.Join m.0 m.1.0 (λ t. t) (λ e. cc) (λ t. t) (λ e. cc) (for_words os given m.1.1.0)
  made_work (Picked form.Line) m = lists_plain true m.0 m.1
  made_work (Picked (form.Word words)) m = lists true m.0 (for_words os given m.1.0)
  made_work (Picked form.Name) m = of_picked name.Filter tt (λ t. t) (λ t. t) m
  made_work Tar m = bare name.Tar m.0 m.1 (λ t. t) (λ e. cc) (λ t. t) (λ e. cc) (plain os given (no_words name.Tar given m.1 (λ t. t) (λ t. t)) (λ h. absurd (all_fit name.Tar given m.1 option.Ignore h)))
  made_work Why m = of_picked name.Why tt (λ t. t) (λ t. t) m

made : (given : Line) (command : Command) → MakesUp given command → IsMade given
made given (On os work) m = made_work given os work m
made given Help m = absurd m
made given Version m = absurd m

module _ (given : Line) (m : IsMade given) where
  not_missing : (what : List ℕ) → IsMissing given what → ⊥
  not_missing what (inl k) = not_nil (sym k.1 ∙ m.operands.1.0)
  not_missing what (inr (inl k)) =
      let same = one_command given m.command name.Filter m.os k.1.0 m.more [] m.operands k.1.1.0 in
      k.1.1.1 (subst (SomePicked given) same.1.1 (m.needs same.0))
  not_missing what (inr (inr (inl k))) =
      let same = one_command given m.command k.1.0 m.os k.1.1 m.more [] m.operands k.1.2.0 in
      ⊎_elim (λ more. more refl) k.1.2.1.1 (subst (SomeMatch given) same.1.1 (m.turns k.1.2.1.0))
  not_missing what (inr (inr (inr k))) =
      let same = one_command given m.command name.Why m.os k.1.0 m.more [] m.operands k.1.1.0 in
      k.1.1.1 (subst (SomePicked given) same.1.1 (m.states same.0))

  not_invalid : (max : ℕ) → IsMax given max → (files : List (List ℕ)) → AreValues option.Ignore given files × AllByRecursion IsPlaced files → (what word : List ℕ) → IsInvalid given what word → ⊥
  not_invalid max limit files placed what word (inl k) = k.1.0 m.command (head_is (sym k.1.1.1 ∙ m.operands.1.0))
  not_invalid max (inl limit) files placed what word (inr (inl k)) =
      let never = one_last option.Max given None None (Some word) limit.0 k.1.0 in
      cc
  not_invalid max (inr limit) files placed what word (inr (inl k)) =
      let same = one_last option.Max given None (Some limit.0) (Some word) limit.1.0 k.1.0 in
      let is : limit.0 ≡ word = cc in
      k.1.1 max (subst (λ n. IsLimit n max) is limit.1.1)
  not_invalid max limit files placed what word (inr (inr k)) = k.1.2.1 (value_in option.Ignore IsPlaced given files k.1.0 k.1.1 word placed.0 placed.1 k.1.2.0)

  not_misplaced : (word where_to : List ℕ) → IsMisplaced given word where_to → ⊥
  not_misplaced word where_to k = by k.unfit
    where
      same : (m.command ≡ k.command) × ((m.os ≡ k.os) × (m.more ≡ k.more))
      same = one_command given m.command k.command m.os k.os m.more k.more m.operands k.operands

      by : ((where_to ≡ name_word k.command) × (¬ (TakesOption k.command k.it))) ⊎ ((where_to ≡ os_word k.os) × (¬ (IsForPlatform k.os k.it))) → ⊥
      by (inl u) = u.1 (subst (λ c. TakesOption c k.it) same.0 (all_fit m.command given m.fits k.it k.has))
      by (inr u) = u.1 (subst (λ o. IsForPlatform o k.it) same.1.0 (m.for_platform k.it k.has))

  not_too_many : (word : List ℕ) → IsTooMany given word → ⊥
  not_too_many word k = by k.0 k.1 k.2 k.3 m.few
    where
      by : (command : Name) (os : Os) (more : List (List ℕ)) →
          ((TakesOption command option.Glob × ((glob : List ℕ) × HasOperands given command os (glob ∷ word ∷ more)))
          ⊎ ((¬ (TakesOption command option.Glob)) × HasOperands given command os (word ∷ more))) →
          ((TakesOption m.command option.Glob × AtMostOne m.more) ⊎ ((¬ (TakesOption m.command option.Glob)) × (m.more ≡ []))) → ⊥
      by command os more (inl k) (inl f) = subst AtMostOne (one_command given m.command command m.os os m.more (k.1.0 ∷ word ∷ more) m.operands k.1.1).1.1 f.1
      by command os more (inl k) (inr f) = not_nil (sym f.1 ∙ (one_command given m.command command m.os os m.more (k.1.0 ∷ word ∷ more) m.operands k.1.1).1.1)
      by command os more (inr k) (inl f) = k.0 (subst (λ c. TakesOption c option.Glob) (one_command given m.command command m.os os m.more (word ∷ more) m.operands k.1).0 f.0)
      by command os more (inr k) (inr f) = not_nil (sym f.1 ∙ (one_command given m.command command m.os os m.more (word ∷ more) m.operands k.1).1.1)

  not_wrong : (max : ℕ) → IsMax given max → (files : List (List ℕ)) → AreValues option.Ignore given files × AllByRecursion IsPlaced files → (wrong : misuse.Misuse) → IsMisuse given wrong → ⊥
  not_wrong max limit files placed (Argument error) k = not_too_many k.0 k.1.0
  not_wrong max limit files placed (Missing what) k = not_missing what.now k
  not_wrong max limit files placed (Invalid what word) k = not_invalid max limit files placed what.now word.now k
  not_wrong max limit files placed (Misplaced word where_to) k = not_misplaced word.now where_to.now k

-- what is wrong makes up no request, where no help and no version is requested
pub no_request : (given : Line) → ¬ (HasOption option.Help given) → ¬ (HasOption option.Version given) → (wrong : misuse.Misuse) → IsMisuse given wrong → (requested : Requested) → ¬ (IsRequestFor given requested)
no_request given help version wrong k requested (inl h) = help h.0
no_request given help version wrong k requested (inr h) = by h.1
  where
    by : ((HasOption option.Version given × (requested.command ≡ Version)) ⊎ ((¬ (HasOption option.Version given)) × (IsListed given requested.list × (MakesUp given requested.command × StatesPicks given requested)))) → ⊥
    by (inl v) = version v.0
    by (inr c) = not_wrong given (made given requested.command c.1.1.0) c.1.0.0 c.1.0.1.0 requested.files c.1.1.1.1.0 wrong k
