-- What each task requests of a path, and with which faults a path is rejected. No file's path has a NUL (POSIX, "Definitions", Pathname).
use Rattle.std.specs.Prelude.{◌≡◌, ◌≢◌, ◌⊎◌, ℕ, ◌≤◌, Bool, true, false, List, [], ◌∷◌, ◌++◌, codes, length, Option, Some, None}
use Rattle.std.specs.Fmt.Cut.{cut_to}
use Rattle.std.specs.Fmt.InlineText.{inline_text}
use Rattle.std.specs.Borrow.{Bor}
use Rattle.os_str_bytes.specs.Platform.{Ghosts}
use Rattle.os_str_bytes.specs.EncodingError.{EncodingError}
use Rattle.os_quote.specs.Escape.{IsLineEscape}
use Rattle.path_rules.specs.declared.rules.Style.{Style}
use Rattle.path_rules.specs.Compare as compare
use Rattle.path_rules.specs.Component.{Item, Prefix, RootDir, CurDir, ParentDir, Normal}
use Rattle.path_rules.specs.Components.{AreComponents}
use Rattle.path_rules.specs.Parent.{IsParent, HasNoParent, HasFileName, HasNoFileName}
use Rattle.path_building.specs.BaseViews.{base_path, base_style}
use Rattle.path_building.specs.Checked.{IsBelowBase, IsCheckedJoin}
use Rattle.path_building.specs.CheckedEnd.{IsCheckedJoinEnded}
use Rattle.path_building.specs.Faults.{IsNameFault}
use Rattle.path_building.specs.declared.base.Base.{Base}
use Rattle.path_building.specs.Cleaned.{IsCleaned}
use Rattle.path_building.specs.FileName.{IsExtensionSet}
use Rattle.path_building.specs.FullPath.{IsFullPath, IsAbsoluteFault}
use Rattle.path_building.specs.Join.{IsJoin}
use Rattle.path_building.specs.Normalized.{IsNormalized, HasNoNormalForm}
use Rattle.path_building.specs.Relative.{IsRelativeFrom}
use Rattle.path_building.specs.declared.full_paths.AbsoluteError.TheVariants as absolute_error
use Rattle.path_building.specs.declared.walk.NameError.{NameError}
use Rattle.path_building.specs.declared.walk.NameError.TheVariants as name_error
use Rattle.path_building.specs.Restyled.{IsRestyled}
use Rattle.path_rules.specs.StyleRules.{main_separator}
use Rattle.os_path.specs.Names.{HasFileStem, HasExtension, LacksExtension}
use Rattle.os_path.specs.Converted.{IsConvertFault}
use Rattle.os_path.specs.declared.styles.ConvertError.TheVariants as convert
use Rattle.list_programs.specs.Items.{Lacks}
use Rattle.list_programs.specs.ListOptions.{MayLack, byte_of}
use Rattle.program_frame.specs.Os.{os_word}
use Rattle.program_frame.specs.Strings.{strings}
use Rattle.list_programs.specs.declared.options.ItemEnd.{ItemEnd}
use Rattle.list_programs.specs.declared.options.ListOptions.{ListOptions}
use Rattle.program_frame.specs.declared.os.Os.{Os}
use Rattle.list_programs.specs.Rules.{ListRules}
use Rattle.paths_commands.specs.Styles.{style_of}
use Rattle.paths_commands.specs.declared.extension.Extension as declared_extension
use Rattle.paths_commands.specs.declared.fault.Rejection.{Rejection}
use Rattle.paths_commands.specs.declared.fault.Rejection.TheVariants as rejection
use Rattle.paths_commands.specs.declared.command.Name.{Name as DeclaredName}
use Rattle.paths_commands.specs.declared.command.Name.TheVariants as name
use Rattle.paths_commands.specs.declared.task.Task.{Task}
use Rattle.paths_commands.specs.declared.task.Task.TheVariants.{Components, Common, Parent, Name, Stem, Extension, WithExtension, Normalize, Clean, StartsWith, Join, JoinChecked, Relative, Absolute, Convert}

-- the name of the task
abbrev pub name_of : Task → DeclaredName
name_of Components = name.Components
name_of Common = name.Common
name_of Parent = name.Parent
name_of Name = name.Name
name_of Stem = name.Stem
name_of Extension = name.Extension
name_of (WithExtension extension) = name.WithExtension
name_of Normalize = name.Normalize
name_of Clean = name.Clean
name_of (StartsWith base) = name.StartsWith
name_of (Join base) = name.Join
name_of (JoinChecked base keeps) = name.Join
name_of (Relative base) = name.Relative
name_of (Absolute directory) = name.Absolute
name_of (Convert to) = name.Convert

-- the argument that is the name
abbrev pub name_word : DeclaredName → List ℕ
name_word name.Components = codes "components"
name_word name.Common = codes "common"
name_word name.Parent = codes "parent"
name_word name.Name = codes "name"
name_word name.Stem = codes "stem"
name_word name.Extension = codes "extension"
name_word name.WithExtension = codes "with-extension"
name_word name.Normalize = codes "normalize"
name_word name.Clean = codes "clean"
name_word name.StartsWith = codes "starts-with"
name_word name.Join = codes "join"
name_word name.Relative = codes "relative"
name_word name.Absolute = codes "absolute"
name_word name.Convert = codes "convert"

-- the task joins no path that could leave the base
abbrev pub IsChecked : Task → Type 0
IsChecked Components = ⊥
IsChecked Common = ⊥
IsChecked Parent = ⊥
IsChecked Name = ⊥
IsChecked Stem = ⊥
IsChecked Extension = ⊥
IsChecked (WithExtension extension) = ⊥
IsChecked Normalize = ⊥
IsChecked Clean = ⊥
IsChecked (StartsWith base) = ⊥
IsChecked (Join base) = ⊥
IsChecked (JoinChecked base keeps) = Unit {0}
IsChecked (Relative base) = ⊥
IsChecked (Absolute directory) = ⊥
IsChecked (Convert to) = ⊥

-- a separator at the end of a path is kept
abbrev pub KeepsSeparator : Task → Type 0
KeepsSeparator Components = ⊥
KeepsSeparator Common = ⊥
KeepsSeparator Parent = ⊥
KeepsSeparator Name = ⊥
KeepsSeparator Stem = ⊥
KeepsSeparator Extension = ⊥
KeepsSeparator (WithExtension extension) = ⊥
KeepsSeparator Normalize = ⊥
KeepsSeparator Clean = ⊥
KeepsSeparator (StartsWith base) = ⊥
KeepsSeparator (Join base) = ⊥
KeepsSeparator (JoinChecked base keeps) = keeps ≡ true
KeepsSeparator (Relative base) = ⊥
KeepsSeparator (Absolute directory) = ⊥
KeepsSeparator (Convert to) = ⊥

-- the operands after the platform's
abbrev pub operands_of_task : Task → List (List ℕ)
operands_of_task Components = []
operands_of_task Common = []
operands_of_task Parent = []
operands_of_task Name = []
operands_of_task Stem = []
operands_of_task Extension = []
operands_of_task (WithExtension extension) = extension.text.now ∷ []
operands_of_task Normalize = []
operands_of_task Clean = []
operands_of_task (StartsWith base) = base.now ∷ []
operands_of_task (Join base) = base.now ∷ []
operands_of_task (JoinChecked base keeps) = base_path base ∷ []
operands_of_task (Relative base) = base.now ∷ []
operands_of_task (Absolute directory) = directory.now ∷ []
operands_of_task (Convert to) = os_word to ∷ []

-- a component as it is written (std's `Component::as_os_str`)
abbrev pub component_text : Style → Item → List ℕ
component_text style (Prefix s) = s
component_text style RootDir = main_separator style ∷ []
component_text style CurDir = codes "."
component_text style ParentDir = codes ".."
component_text style (Normal s) = s

-- the path with this extension of its last name, and the path itself where it doesn't end in a name
abbrev pub IsExtendedBy : declared_extension.Extension → List ℕ → List ℕ → Type 0
IsExtendedBy extension path made = (is_set : Bool) × IsExtensionSet extension.style path extension.text.now made is_set

-- the path after the base, with the separator at its end where that is kept
abbrev pub IsJoinedTo : Base → Bool → List ℕ → List ℕ → Type 0
IsJoinedTo base false path joined = IsCheckedJoin (base_style base) (base_path base) path joined
IsJoinedTo base true path joined = IsCheckedJoinEnded (base_style base) (base_path base) path joined

-- and it has the components of the base and then names alone
abbrev pub IsJoinedBelow : Base → Bool → List ℕ → List ℕ → Type 0
IsJoinedBelow base keeps path joined = IsJoinedTo base keeps path joined × IsBelowBase (base_style base) (base_path base) joined

-- how a path is reached, as it is written: `.` from itself
abbrev pub way_text : List ℕ → List ℕ
way_text [] = codes "."
way_text (b ∷ way) = b ∷ way

-- the result of the task: the requested part, and nothing where the path has none. Or the path itself, the path with another extension, a form of the path, the path after a base or how it is reached from one, the path as an absolute path, or a path of another platform with its components
abbrev pub IsAnswer : Style → Task → List ℕ → List ℕ → Type 0
IsAnswer style Components path answer = ⊥
IsAnswer style Common path answer = answer ≡ path
IsAnswer style Parent path answer = IsParent style path answer ⊎ (HasNoParent style path × (answer ≡ []))
IsAnswer style Name path answer = HasFileName style path answer ⊎ (HasNoFileName style path × (answer ≡ []))
IsAnswer style Stem path answer = HasFileStem style path answer ⊎ (HasNoFileName style path × (answer ≡ []))
IsAnswer style Extension path answer = HasExtension style path answer ⊎ (LacksExtension style path × (answer ≡ []))
IsAnswer style (WithExtension extension) path answer = IsExtendedBy extension path answer
IsAnswer style Normalize path answer = IsNormalized style path answer
IsAnswer style Clean path answer = IsCleaned style path answer
IsAnswer style (StartsWith base) path answer = compare.StartsWith style path base.now × (answer ≡ path)
IsAnswer style (Join base) path answer = IsJoin style base.now path answer
IsAnswer style (JoinChecked base keeps) path answer = IsJoinedBelow base keeps path answer
IsAnswer style (Relative base) path answer = (way : List ℕ) × (IsRelativeFrom style path base.now (Some way) × (answer ≡ way_text way))
IsAnswer style (Absolute directory) path answer = IsFullPath style path directory.now answer
IsAnswer style (Convert to) path answer = (strings to).well_formed answer × IsRestyled style (style_of to) path answer

-- the path isn't one of those that the task picks, which begin with a base
abbrev pub IsLeftOut : Style → Task → List ℕ → Type 0
IsLeftOut style task path = (base : Bor (List ℕ)) × ((task ≡ StartsWith base) × (¬ (compare.StartsWith style path base.now)))

-- the path is one of those, or the task picks none
abbrev pub IsTaken : Style → Task → List ℕ → Type 0
IsTaken style task path = (base : Bor (List ℕ)) → task ≡ StartsWith base → compare.StartsWith style path base.now

-- the index of the component that the error is about, if it is about one: a prefix or a root is the first
abbrev pub component_of : NameError → Option ℕ
component_of (name_error.Nul index) = None
component_of name_error.Prefix = Some 0
component_of name_error.Root = Some 0
component_of (name_error.Leaves index) = Some index
component_of (name_error.Stream index) = Some index
component_of (name_error.Reserved index) = Some index
component_of name_error.Memory = None

-- the component at this index is this one
abbrev pub IsAt : List Item → ℕ → Item → Type 0
IsAt items index item = (before : List Item) × ((after : List Item) × ((items ≡ before ++ item ∷ after) × (length before ≡ index)))

-- on a platform that states this of its strings, and whose paths follow these rules:
module _ {E : Type 0} (p : Ghosts E) (style : Style) where
  -- the escape of each component on a line
  abbrev pub AreLines : List Item → List ℕ → Type 0
  AreLines [] text = text ≡ []
  AreLines (item ∷ items) text = (line : List ℕ) × (IsLineEscape p.units (component_text style item) line × ((rest : List ℕ) × ((text ≡ (line ++ 0x0A ∷ []) ++ rest) × AreLines items rest)))

  -- the lines of the path's components, and an empty line
  pub record IsComponentsText (path text : List ℕ) : Type 0 where
    pub items : List Item
    pub are : AreComponents style path items
    pub lines : List ℕ
    pub each : AreLines items lines
    pub text_is : text ≡ lines ++ 0x0A ∷ []

  -- what is made of a path: its components on lines, or the result
  abbrev pub IsMade : Task → List ℕ → List ℕ → Type 0
  IsMade task path made = ((task ≡ Components) × IsComponentsText path made) ⊎ IsAnswer style task path made

  -- a result without the byte that ends it, and that byte
  abbrev pub IsAnswered : ItemEnd → Task → List ℕ → List ℕ → Type 0
  IsAnswered end task path text = (answer : List ℕ) × (IsAnswer style task path answer × (Lacks (byte_of end) answer × (text ≡ answer ++ byte_of end ∷ [])))

  -- what is written for a path: its components on lines, a result with its end, or nothing if it is left out
  abbrev pub IsPathText : ItemEnd → Task → List ℕ → List ℕ → Type 0
  IsPathText end task path text =
      ((task ≡ Components) × IsComponentsText path text)
      ⊎ (IsAnswered end task path text ⊎ (IsLeftOut style task path × (text ≡ [])))

  -- the same, of a path that is a string of the platform without a NUL
  abbrev pub IsText : ItemEnd → Task → List ℕ → List ℕ → Type 0
  IsText end task path text = p.well_formed path × (Lacks 0 path × IsPathText end task path text)

  -- what is shown of the component at this index: its escape, of which 200 bytes are kept, three dots among them, if it is longer
  abbrev pub IsShown : List Item → ℕ → List ℕ → Type 0
  IsShown items index text =
      ((item : Item) × (IsAt items index item × ((line : List ℕ) × (IsLineEscape p.units (component_text style item) line × (text ≡ cut_to 200 line)))))
      ⊎ ((length items ≤ index) × (text ≡ []))

  -- the same, of a path's components
  abbrev pub IsShownOf : List ℕ → ℕ → List ℕ → Type 0
  IsShownOf path index text = (items : List Item) × (AreComponents style path items × IsShown items index text)

  -- the reason for an error: it has what is shown of the component at fault, if it is one
  abbrev pub IsReasonOf : List ℕ → NameError → Rejection → Type 0
  IsReasonOf path error (rejection.NoString other) = ⊥
  IsReasonOf path error rejection.NoNormalForm = ⊥
  IsReasonOf path error rejection.NoRelativePath = ⊥
  IsReasonOf path error (rejection.NoAbsolutePath other) = ⊥
  IsReasonOf path error (rejection.NoJoin other) = (other ≡ error) × (component_of error ≡ None)
  IsReasonOf path error (rejection.NoJoinAt other text) = (other ≡ error) × ((index : ℕ) × ((component_of error ≡ Some index) × IsShownOf path index (inline_text text)))
  IsReasonOf path error (rejection.NoComponent index text) = ⊥
  IsReasonOf path error (rejection.NoStringThere other) = ⊥
  IsReasonOf path error rejection.HasNul = ⊥
  IsReasonOf path error (rejection.ResultHas end) = ⊥

  -- why a path isn't joined to the base, other than that an allocation failed
  abbrev pub IsUnjoined : Base → List ℕ → Rejection → Type 0
  IsUnjoined base path why = (error : NameError) × (((error ≢ name_error.Memory) × IsNameFault (base_style base) path error) × IsReasonOf path error why)

  -- why there is no path of another platform with the path's components: it can't have one of them, or the bytes aren't a string of it
  abbrev pub IsUnconverted : Style → (List ℕ → EncodingError → Type 0) → List ℕ → Rejection → Type 0
  IsUnconverted to is_fault path (rejection.NoString error) = ⊥
  IsUnconverted to is_fault path rejection.NoNormalForm = ⊥
  IsUnconverted to is_fault path rejection.NoRelativePath = ⊥
  IsUnconverted to is_fault path (rejection.NoAbsolutePath error) = ⊥
  IsUnconverted to is_fault path (rejection.NoJoin error) = ⊥
  IsUnconverted to is_fault path (rejection.NoJoinAt error text) = ⊥
  IsUnconverted to is_fault path (rejection.NoComponent index text) = IsConvertFault style to is_fault path (convert.Component index) × IsShownOf path index (inline_text text)
  IsUnconverted to is_fault path (rejection.NoStringThere error) = IsConvertFault style to is_fault path (convert.Encoding error)
  IsUnconverted to is_fault path rejection.HasNul = ⊥
  IsUnconverted to is_fault path (rejection.ResultHas end) = ⊥

  -- why there is no result for a string of the platform
  abbrev pub IsUnanswered : Task → List ℕ → Rejection → Type 0
  IsUnanswered task path (rejection.NoString error) = ⊥
  IsUnanswered task path rejection.NoNormalForm = (task ≡ Normalize) × HasNoNormalForm style path
  IsUnanswered task path rejection.NoRelativePath = (base : Bor (List ℕ)) × ((task ≡ Relative base) × IsRelativeFrom style path base.now None)
  IsUnanswered task path (rejection.NoAbsolutePath error) = (directory : Bor (List ℕ)) × ((task ≡ Absolute directory) × ((error ≢ absolute_error.Memory) × IsAbsoluteFault style path directory.now error))
  IsUnanswered task path (rejection.NoJoin error) = (base : Base) × ((keeps : Bool) × ((task ≡ JoinChecked base keeps) × IsUnjoined base path (rejection.NoJoin error)))
  IsUnanswered task path (rejection.NoJoinAt error text) = (base : Base) × ((keeps : Bool) × ((task ≡ JoinChecked base keeps) × IsUnjoined base path (rejection.NoJoinAt error text)))
  IsUnanswered task path (rejection.NoComponent index text) = (to : Os) × ((task ≡ Convert to) × IsUnconverted (style_of to) (strings to).first_fault path (rejection.NoComponent index text))
  IsUnanswered task path (rejection.NoStringThere error) = (to : Os) × ((task ≡ Convert to) × IsUnconverted (style_of to) (strings to).first_fault path (rejection.NoStringThere error))
  IsUnanswered task path rejection.HasNul = ⊥
  IsUnanswered task path (rejection.ResultHas end) = ⊥

  -- the path has a result with the byte that would end it
  abbrev pub IsCutShort : ItemEnd → Task → List ℕ → Type 0
  IsCutShort end task path = (answer : List ℕ) × (IsAnswer style task path answer × (¬ (Lacks (byte_of end) answer)))

  -- why a path is rejected: the first fault of bytes that aren't a string, a NUL, why there is no result, or that the result has its end
  abbrev pub IsRejection : ItemEnd → Task → List ℕ → Rejection → Type 0
  IsRejection end task path (rejection.NoString error) = p.first_fault path error
  IsRejection end task path rejection.NoNormalForm = IsUnanswered task path rejection.NoNormalForm
  IsRejection end task path rejection.NoRelativePath = IsUnanswered task path rejection.NoRelativePath
  IsRejection end task path (rejection.NoAbsolutePath error) = IsUnanswered task path (rejection.NoAbsolutePath error)
  IsRejection end task path (rejection.NoJoin error) = IsUnanswered task path (rejection.NoJoin error)
  IsRejection end task path (rejection.NoJoinAt error text) = IsUnanswered task path (rejection.NoJoinAt error text)
  IsRejection end task path (rejection.NoComponent index text) = IsUnanswered task path (rejection.NoComponent index text)
  IsRejection end task path (rejection.NoStringThere error) = IsUnanswered task path (rejection.NoStringThere error)
  IsRejection end task path rejection.HasNul = ¬ (Lacks 0 path)
  IsRejection end task path (rejection.ResultHas byte) = (byte ≡ end) × IsCutShort end task path

  -- what is done with each path of a list that is written so, where this byte ends each result
  abbrev pub rules_of : Task → ListOptions → ItemEnd → ListRules Rejection
  rules_of task list end = record {
    end = byte_of list.end;
    takes_unended = MayLack list.last;
    max = list.max;
    longest = list.max;
    is_text = IsText end task;
    rejects = IsRejection end task;
    is_of_long = λ path. ⊥;
  }
