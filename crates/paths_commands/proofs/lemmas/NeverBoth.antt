-- Options and operands that request a command aren't rejected.
use Rattle.std.proofs.Common.{◌≡◌, ◌≢◌, inl, inr, ◌∙◌, ℕ, ◌+◌, ◌≤◌, List, [], ◌∷◌, ◌++◌, length, refl, sym, ap, subst, arith}
use Rattle.list_programs.specs.Arguments.{HasOption, operands_of}
use Rattle.std.proofs.lemmas.List.{length-append}
use Rattle.program_frame.specs.Os.{os_word}
use Rattle.list_programs.specs.declared.misuse.Misuse.{Misuse}
use Rattle.list_programs.specs.declared.misuse.Misuse.TheVariants.{Argument, Missing, Invalid, Misplaced}
use Rattle.program_frame.specs.declared.os.Os.{Os}
use Rattle.path_building.specs.Base.{HasNoNul, IsBase}
use Rattle.path_building.specs.BaseViews.{base_path, base_style}
use Rattle.path_building.specs.Faults.{IsBaseFault}
use Rattle.path_building.specs.declared.base.BaseError.{BaseError}
use Rattle.path_building.specs.declared.base.BaseError.TheVariants as base_error
use Rattle.path_building.proofs.lemmas.Bases.{is_base}
use Rattle.path_rules.specs.Name.{IsExtensionText}
use Rattle.path_rules.specs.Root.{IsAbsolute}
use Rattle.path_rules.specs.declared.rules.Style.{Style}
use Rattle.paths_commands.specs.Styles.{style_of}
use Rattle.paths_commands.specs.Command.{HasNoPlatform, HasOneOperand, HasOperands, HasStyle, IsInvalid, IsMisplaced, IsMissing, IsMisuse, IsNoBase, IsNoDirectory, IsNoExtension, IsNoTarget, IsOfJoin, IsOfPaths, IsTooMany, Line, Needs, RequestsNothing, needed_count}
use Rattle.paths_commands.specs.Task.{IsChecked, KeepsSeparator, name_of, name_word, operands_of_task}
use Rattle.paths_commands.specs.declared.command.Command.TheVariants.{Ask, Help, Version}
use Rattle.paths_commands.specs.declared.command.Name.{Name as DeclaredName}
use Rattle.paths_commands.specs.declared.command.Name.TheVariants as name
use Rattle.paths_commands.specs.declared.option.PathsOption.TheVariants as option
use Rattle.paths_commands.specs.declared.task.Task.{Task}
use Rattle.paths_commands.specs.declared.task.Task.TheVariants.{Components, Common, Parent, Name, Stem, Extension, WithExtension, Normalize, Clean, StartsWith, Join, JoinChecked, Relative, Absolute, Convert}
use Rattle.paths_commands.proofs.lemmas.Platforms.{same_os}
use Rattle.paths_commands.proofs.lemmas.TaskNames.{same_name}

none_some : {X : Type 0} {x : X} {xs : List X} → [] ≡ x ∷ xs → ⊥
none_some e = cc

first : {X : Type 0} {x y : X} {xs ys : List X} → x ∷ xs ≡ y ∷ ys → x ≡ y
first e = cc

rest : {X : Type 0} {x y : X} {xs ys : List X} → x ∷ xs ≡ y ∷ ys → xs ≡ ys
rest e = cc

-- a task has as many operands as it needs
count_is : (task : Task) → length (operands_of_task task) ≡ needed_count (name_of task)
count_is Components = refl
count_is Common = refl
count_is Parent = refl
count_is Name = refl
count_is Stem = refl
count_is Extension = refl
count_is (WithExtension extension) = refl
count_is Normalize = refl
count_is Clean = refl
count_is (StartsWith base) = refl
count_is (Join base) = refl
count_is (JoinChecked base keeps) = refl
count_is (Relative base) = refl
count_is (Absolute directory) = refl
count_is (Convert to) = refl

-- a task that needs an operand needs one
needs_one : (it : DeclaredName) (what : List ℕ) → Needs it what → needed_count it ≡ 1
needs_one name.Components what needs = absurd needs
needs_one name.Common what needs = absurd needs
needs_one name.Parent what needs = absurd needs
needs_one name.Name what needs = absurd needs
needs_one name.Stem what needs = absurd needs
needs_one name.Extension what needs = absurd needs
needs_one name.WithExtension what needs = refl
needs_one name.Normalize what needs = absurd needs
needs_one name.Clean what needs = absurd needs
needs_one name.StartsWith what needs = refl
needs_one name.Join what needs = refl
needs_one name.Relative what needs = refl
needs_one name.Absolute what needs = refl
needs_one name.Convert what needs = refl

no_join : name.Convert ≡ name.Join → ⊥
no_join e = cc

no_relative : name.Convert ≡ name.Relative → ⊥
no_relative e = cc

no_absolute : name.Convert ≡ name.Absolute → ⊥
no_absolute e = cc

no_extension : name.Convert ≡ name.WithExtension → ⊥
no_extension e = cc

no_start : name.Convert ≡ name.StartsWith → ⊥
no_start e = cc

not_join : name.Absolute ≡ name.Join → ⊥
not_join e = cc

not_relative : name.Absolute ≡ name.Relative → ⊥
not_relative e = cc

not_extension : name.Absolute ≡ name.WithExtension → ⊥
not_extension e = cc

not_start : name.Absolute ≡ name.StartsWith → ⊥
not_start e = cc

extends_once : (it : DeclaredName) → name.WithExtension ≡ it → it ≢ name.StartsWith × (it ≢ name.Join × (it ≢ name.Relative × (it ≢ name.Absolute × it ≢ name.Convert)))
extends_once it is = ((λ e. start (is ∙ e)), ((λ e. join (is ∙ e)), ((λ e. relative (is ∙ e)), ((λ e. absolute (is ∙ e)), (λ e. convert (is ∙ e))))))
  where
    start : name.WithExtension ≡ name.StartsWith → ⊥
    start e = cc

    join : name.WithExtension ≡ name.Join → ⊥
    join e = cc

    relative : name.WithExtension ≡ name.Relative → ⊥
    relative e = cc

    absolute : name.WithExtension ≡ name.Absolute → ⊥
    absolute e = cc

    convert : name.WithExtension ≡ name.Convert → ⊥
    convert e = cc

-- the operand of a task that converts is a platform
converts : (task : Task) (word : List ℕ) (more : List (List ℕ)) → name.Convert ≡ name_of task → operands_of_task task ≡ word ∷ more → (os : Os) × (word ≡ os_word os)
converts Components word more is some = absurd (none_some some)
converts Common word more is some = absurd (none_some some)
converts Parent word more is some = absurd (none_some some)
converts Name word more is some = absurd (none_some some)
converts Stem word more is some = absurd (none_some some)
converts Extension word more is some = absurd (none_some some)
converts (WithExtension extension) word more is some = absurd (no_extension is)
converts Normalize word more is some = absurd (none_some some)
converts Clean word more is some = absurd (none_some some)
converts (StartsWith base) word more is some = absurd (no_start is)
converts (Join base) word more is some = absurd (no_join is)
converts (JoinChecked base keeps) word more is some = absurd (no_join is)
converts (Relative base) word more is some = absurd (no_relative is)
converts (Absolute directory) word more is some = absurd (no_absolute is)
converts (Convert to) word more is some = (to, sym (first some))

-- a task that is checked is a join
checked_joins : (task : Task) → IsChecked task → name_of task ≡ name.Join
checked_joins Components is = absurd is
checked_joins Common is = absurd is
checked_joins Parent is = absurd is
checked_joins Name is = absurd is
checked_joins Stem is = absurd is
checked_joins Extension is = absurd is
checked_joins (WithExtension extension) is = absurd is
checked_joins Normalize is = absurd is
checked_joins Clean is = absurd is
checked_joins (StartsWith base) is = absurd is
checked_joins (Join base) is = absurd is
checked_joins (JoinChecked base keeps) is = refl
checked_joins (Relative base) is = absurd is
checked_joins (Absolute directory) is = absurd is
checked_joins (Convert to) is = absurd is

-- a task that keeps separators is checked
keeps_checked : (task : Task) → KeepsSeparator task → IsChecked task
keeps_checked Components keeps = keeps
keeps_checked Common keeps = keeps
keeps_checked Parent keeps = keeps
keeps_checked Name keeps = keeps
keeps_checked Stem keeps = keeps
keeps_checked Extension keeps = keeps
keeps_checked (WithExtension extension) keeps = keeps
keeps_checked Normalize keeps = keeps
keeps_checked Clean keeps = keeps
keeps_checked (StartsWith base) keeps = keeps
keeps_checked (Join base) keeps = keeps
keeps_checked (JoinChecked base is) keeps = tt
keeps_checked (Relative base) keeps = keeps
keeps_checked (Absolute directory) keeps = keeps
keeps_checked (Convert to) keeps = keeps

-- a task that is checked has a base
checked_base : (w : Style) (task : Task) (word : List ℕ) → IsChecked task → HasStyle w task → operands_of_task task ≡ word ∷ [] → IsBase w word
checked_base w Components word is of own = absurd is
checked_base w Common word is of own = absurd is
checked_base w Parent word is of own = absurd is
checked_base w Name word is of own = absurd is
checked_base w Stem word is of own = absurd is
checked_base w Extension word is of own = absurd is
checked_base w (WithExtension extension) word is of own = absurd is
checked_base w Normalize word is of own = absurd is
checked_base w Clean word is of own = absurd is
checked_base w (StartsWith base) word is of own = absurd is
checked_base w (Join base) word is of own = absurd is
checked_base w (JoinChecked base keeps) word is of own = subst (IsBase w) (first own) (subst (λ v. IsBase v (base_path base)) of (is_base (base_style base) (base_path base) base.complete))
checked_base w (Relative base) word is of own = absurd is
checked_base w (Absolute directory) word is of own = absurd is
checked_base w (Convert to) word is of own = absurd is

-- the operand of a task that makes paths absolute is absolute
absolute_directory : (w : Style) (task : Task) (word : List ℕ) → name.Absolute ≡ name_of task → HasStyle w task → operands_of_task task ≡ word ∷ [] → IsAbsolute w word
absolute_directory w Components word is of own = absurd (none_some own)
absolute_directory w Common word is of own = absurd (none_some own)
absolute_directory w Parent word is of own = absurd (none_some own)
absolute_directory w Name word is of own = absurd (none_some own)
absolute_directory w Stem word is of own = absurd (none_some own)
absolute_directory w Extension word is of own = absurd (none_some own)
absolute_directory w (WithExtension extension) word is of own = absurd (not_extension is)
absolute_directory w Normalize word is of own = absurd (none_some own)
absolute_directory w Clean word is of own = absurd (none_some own)
absolute_directory w (StartsWith base) word is of own = absurd (not_start is)
absolute_directory w (Join base) word is of own = absurd (not_join is)
absolute_directory w (JoinChecked base keeps) word is of own = absurd (not_join is)
absolute_directory w (Relative base) word is of own = absurd (not_relative is)
absolute_directory w (Absolute directory) word is of own = subst (IsAbsolute w) (first own) of
absolute_directory w (Convert to) word is of own = absurd (no_absolute (sym is))

-- the operand of a task that replaces extensions is one
extension_text : (w : Style) (task : Task) (word : List ℕ) → name.WithExtension ≡ name_of task → HasStyle w task → operands_of_task task ≡ word ∷ [] → IsExtensionText w word
extension_text w Components word is of own = absurd (none_some own)
extension_text w Common word is of own = absurd (none_some own)
extension_text w Parent word is of own = absurd (none_some own)
extension_text w Name word is of own = absurd (none_some own)
extension_text w Stem word is of own = absurd (none_some own)
extension_text w Extension word is of own = absurd (none_some own)
extension_text w (WithExtension extension) word is of own = subst (IsExtensionText w) (first own) (subst (λ v. IsExtensionText v extension.text.now) of extension.plain)
extension_text w Normalize word is of own = absurd (none_some own)
extension_text w Clean word is of own = absurd (none_some own)
extension_text w (StartsWith base) word is of own = absurd ((extends_once name.StartsWith is).0 refl)
extension_text w (Join base) word is of own = absurd ((extends_once name.Join is).1.0 refl)
extension_text w (JoinChecked base keeps) word is of own = absurd ((extends_once name.Join is).1.0 refl)
extension_text w (Relative base) word is of own = absurd ((extends_once name.Relative is).1.1.0 refl)
extension_text w (Absolute directory) word is of own = absurd ((extends_once name.Absolute is).1.1.1.0 refl)
extension_text w (Convert to) word is of own = absurd ((extends_once name.Convert is).1.1.1.1 refl)

no_nul_after : (before after : List ℕ) → HasNoNul (before ++ 0 ∷ after) → ⊥
no_nul_after [] after none = none.0 refl
no_nul_after (b ∷ before) after none = no_nul_after before after none.1

-- a base has no fault
no_fault : (w : Style) (path : List ℕ) (error : BaseError) → IsBase w path → IsBaseFault w path error → ⊥
no_fault w path (base_error.Nul index) is fault = no_nul_after fault.before fault.after (subst HasNoNul fault.joined is.0)
no_fault w path base_error.Incomplete is fault = is.1.0 fault.1
no_fault w path base_error.Reserved is fault = is.1.1 fault.1.1

-- a word that is read as a platform isn't left out as one
not_both : (after_end : ℕ) (os : Os) (more : List (List ℕ)) → length (os_word os ∷ more) ≢ after_end → HasNoPlatform after_end (os_word os ∷ more) → ⊥
not_both after_end os more other (inl none) = none os refl
not_both after_end os more other (inr all) = other all

-- operands are of one task, one platform and the same further operands
one_reading : (after_end : ℕ) (given : Line) (it also : DeclaredName) (os other : Os) (more rest_of : List (List ℕ)) → HasOperands after_end given it os more → HasOperands after_end given also other rest_of
    → (it ≡ also) × ((os ≡ other) × (more ≡ rest_of))
one_reading after_end given it also os other more others (inl has) (inl has_too) =
    let same = sym has.0 ∙ has_too.0 in (same_name it also (first same), (same_os os other (first (rest same)), rest (rest same)))
one_reading after_end given it also os other more others (inl has) (inr has_too) =
    let same = sym has.0 ∙ has_too.0 in absurd (not_both after_end os more has.1 (subst (HasNoPlatform after_end) (sym (rest same)) has_too.1.1))
one_reading after_end given it also os other more others (inr has) (inl has_too) =
    let same = sym has_too.0 ∙ has.0 in absurd (not_both after_end other others has_too.1 (subst (HasNoPlatform after_end) (sym (rest same)) has.1.1))
one_reading after_end given it also os other more others (inr has) (inr has_too) =
    let same = sym has.0 ∙ has_too.0 in (same_name it also (first same), (has.1.0 ∙ sym has_too.1.0, rest same))

-- operands are none only where no task is named
some_operand : (after_end : ℕ) (given : Line) (it : DeclaredName) (os : Os) (more : List (List ℕ)) → HasOperands after_end given it os more → (rest_of : List (List ℕ)) × (operands_of given ≡ name_word it ∷ rest_of)
some_operand after_end given it os more (inl has) = (os_word os ∷ more, has.0)
some_operand after_end given it os more (inr has) = (more, has.0)

-- a list of one word is that word
only : (own : List (List ℕ)) (word : List ℕ) (paths others : List (List ℕ)) → length own ≡ 1 → own ++ paths ≡ word ∷ others → own ≡ word ∷ []
only [] word paths others one e = absurd (omega (arith, one))
only (it ∷ []) word paths others one e = ap (λ w. w ∷ []) (first e)
only (it ∷ other ∷ own) word paths others one e = absurd (omega (arith, one))

none_left : (own paths : List (List ℕ)) → [] ≡ own ++ paths → length own ≡ 0
none_left [] paths e = refl
none_left (word ∷ own) paths e = absurd (none_some e)

-- the lengths of both sides
same_length : (own paths before more : List (List ℕ)) (word : List ℕ) → own ++ paths ≡ before ++ word ∷ more → length own + length paths ≡ length before + length (word ∷ more)
same_length own paths before more word e = sym (length-append own paths) ∙ ap length e ∙ length-append before (word ∷ more)

module _ (after_end : ℕ) (given : Line) (task : Task) (os : Os) (paths : List (List ℕ)) (requests : HasOperands after_end given (name_of task) os (operands_of_task task ++ paths)) (late : length paths ≤ after_end) where
  -- the task needs one operand, which is its own
  own_word : (it : DeclaredName) (other : Os) (word : List ℕ) → needed_count it ≡ 1 → HasOneOperand after_end given it other word → (name_of task ≡ it) × ((os ≡ other) × (operands_of_task task ≡ word ∷ []))
  own_word it other word one has =
      let same = one_reading after_end given (name_of task) it os other (operands_of_task task ++ paths) (word ∷ has.0) requests has.1.0 in
      (same.0, (same.1.0, only (operands_of_task task) word paths has.0 (count_is task ∙ ap needed_count same.0 ∙ one) same.1.1))

  nothing_missing : (what : List ℕ) → (HasOption option.KeepSeparator given → HasOption option.Checked given) → IsMissing after_end given what → ⊥
  nothing_missing what checked (inl no_command) = let some = some_operand after_end given (name_of task) os (operands_of_task task ++ paths) requests in none_some (sym no_command.1 ∙ some.1)
  nothing_missing what checked (inr (inl none)) = none.1.0.1 (checked none.1.0.0)
  nothing_missing what checked (inr (inr no_operand)) =
      let same = one_reading after_end given no_operand.0 (name_of task) no_operand.1.0 os [] (operands_of_task task ++ paths) no_operand.1.1.0 requests in
      let count = sym (needs_one no_operand.0 what no_operand.1.1.1) ∙ ap needed_count same.0 ∙ sym (count_is task) ∙ none_left (operands_of_task task) paths same.1.1 in
      absurd (omega (arith, count))

  no_bad_base : (what word : List ℕ) → (HasOption option.Checked given → IsChecked task) → HasStyle (style_of os) task → IsNoBase after_end given what word → ⊥
  no_bad_base what word checked of none =
      let own = own_word name.Join none.1.1.1.0 word refl none.1.1.1.1.0 in
      let is = checked_base (style_of os) task word (checked none.1.1.0) of own.1.1 in
      no_fault (style_of os) word none.0 is (subst (λ o. IsBaseFault (style_of o) word none.0) (sym own.1.0) none.1.1.1.1.1)

  no_bad_directory : (what word : List ℕ) → HasStyle (style_of os) task → IsNoDirectory after_end given what word → ⊥
  no_bad_directory what word of none =
      let own = own_word name.Absolute none.1.0 word refl none.1.1.0 in
      none.1.1.1 (subst (λ o. IsAbsolute (style_of o) word) own.1.0 (absolute_directory (style_of os) task word (sym own.0) of own.1.1))

  no_bad_extension : (what word : List ℕ) → HasStyle (style_of os) task → IsNoExtension after_end given what word → ⊥
  no_bad_extension what word of none =
      let own = own_word name.WithExtension none.1.0 word refl none.1.1.0 in
      none.1.1.1 (subst (λ o. IsExtensionText (style_of o) word) own.1.0 (extension_text (style_of os) task word (sym own.0) of own.1.1))

  no_bad_target : (what word : List ℕ) → IsNoTarget after_end given what word → ⊥
  no_bad_target what word none =
      let own = own_word name.Convert none.1.0 word refl none.1.1.0 in
      let to = converts task word [] (sym own.0) own.1.1 in
      none.1.1.1 to.0 to.1

  nothing_invalid : (what word : List ℕ) → (HasOption option.Checked given → IsChecked task) → HasStyle (style_of os) task → IsInvalid after_end given what word → ⊥
  nothing_invalid what word checked of (inl no_command) =
      let some = some_operand after_end given (name_of task) os (operands_of_task task ++ paths) requests in no_command.1.0 (name_of task) (first (sym no_command.1.1.1 ∙ some.1))
  nothing_invalid what word checked of (inr (inl no_target)) = no_bad_target what word no_target
  nothing_invalid what word checked of (inr (inr (inl no_base))) = no_bad_base what word checked of no_base
  nothing_invalid what word checked of (inr (inr (inr (inl no_directory)))) = no_bad_directory what word of no_directory
  nothing_invalid what word checked of (inr (inr (inr (inr no_extension)))) = no_bad_extension what word of no_extension

  nothing_surplus : (word : List ℕ) → IsTooMany after_end given word → ⊥
  nothing_surplus word many =
      let same = one_reading after_end given (name_of task) many.name os many.os (operands_of_task task ++ paths) (many.before ++ word ∷ many.more) requests many.has in
      let lengths = same_length (operands_of_task task) paths many.before many.more word same.1.1 in
      let count = count_is task ∙ ap needed_count same.0 ∙ sym many.needed in
      absurd (omega (arith, lengths, count, late, many.early))

  is_join : (word : List ℕ) → (HasOption option.Checked given → IsChecked task) → (HasOption option.KeepSeparator given → KeepsSeparator task) → IsOfJoin given word → name_of task ≡ name.Join
  is_join word checked keeps (inl has) = checked_joins task (checked has.1)
  is_join word checked keeps (inr has) = checked_joins task (keeps_checked task (keeps has.1))

  nothing_misplaced : (word where_to : List ℕ) → (HasOption option.Checked given → IsChecked task) → (HasOption option.KeepSeparator given → KeepsSeparator task) → IsMisplaced after_end given word where_to → ⊥
  nothing_misplaced word where_to checked keeps misplaced =
      let named = misplaced.1 in
      let same = one_reading after_end given named.0 (name_of task) named.1.0 os named.1.1.0 (operands_of_task task ++ paths) named.1.1.1.0 requests in
      named.1.1.1.1.1 (same.0 ∙ is_join word checked keeps misplaced.0)

-- what is wrong with options and operands isn't wrong with those that request a command
pub never_both : (after_end : ℕ) (given : Line) (misuse : Misuse) → IsOfPaths given → IsMisuse after_end given misuse → RequestsNothing after_end given
never_both after_end given misuse of_paths wrong Help requests = of_paths.0 requests
never_both after_end given misuse of_paths wrong Version requests = of_paths.1 requests.1
never_both after_end given (Argument error) of_paths wrong (Ask task os list keeps_going paths) requests = nothing_surplus after_end given task os (operands_of paths.now) requests.1.0.0 requests.1.0.1 wrong.0 wrong.1.0
never_both after_end given (Missing what) of_paths wrong (Ask task os list keeps_going paths) requests = nothing_missing after_end given task os (operands_of paths.now) requests.1.0.0 requests.1.0.1 what.now (λ keeps. requests.1.1.0.0.0 (keeps_checked task (requests.1.1.0.1.1 keeps))) wrong
never_both after_end given (Invalid what word) of_paths wrong (Ask task os list keeps_going paths) requests = nothing_invalid after_end given task os (operands_of paths.now) requests.1.0.0 requests.1.0.1 what.now word.now requests.1.1.0.0.1 requests.1.1.1.0 wrong
never_both after_end given (Misplaced word where_to) of_paths wrong (Ask task os list keeps_going paths) requests = nothing_misplaced after_end given task os (operands_of paths.now) requests.1.0.0 requests.1.0.1 word.now where_to.now requests.1.1.0.0.1 requests.1.1.0.1.1 wrong
