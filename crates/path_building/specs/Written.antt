-- How a path is written from its components: a prefix as it is, the root as one main separator, and one main separator between the names. None begins as a path of Windows' object manager does.
use Rattle.std.specs.Prelude.{◌≡◌, ◌⊎◌, ℕ, true, List, [], ◌∷◌, ◌++◌}
use Rattle.path_rules.specs.declared.rules.Rules.TheVariants as rules
use Rattle.path_rules.specs.declared.rules.Style.{Style}
use Rattle.path_rules.specs.declared.rules.Style.TheVariants as style
use Rattle.path_rules.specs.Separators.{separates, Edge}
use Rattle.path_rules.specs.StyleRules.{main_separator}
use Rattle.path_rules.specs.Component.{Item, Prefix, RootDir, CurDir, ParentDir, Normal}
use Rattle.path_rules.specs.Components.{AreComponents}
use Rattle.path_rules.specs.Prefix.{Kind, Verbatim, VerbatimUnc, VerbatimDisk, Device, Unc, Disk, IsPrefixOf}

-- a name, `.` or `..` as it is written
abbrev pub spelling : Item → List ℕ
spelling (Prefix s) = []
spelling RootDir = []
spelling CurDir = 0x2E ∷ []
spelling ParentDir = 0x2E ∷ 0x2E ∷ []
spelling (Normal s) = s

-- names after others, each after a separator
abbrev pub more_names : ℕ → List Item → List ℕ
more_names c [] = []
more_names c (x ∷ xs) = c ∷ (spelling x ++ more_names c xs)

-- names with separators between them
abbrev pub joined_names : ℕ → List Item → List ℕ
joined_names c [] = []
joined_names c (x ∷ xs) = spelling x ++ more_names c xs

-- the same after a root, if there is one, which is a separator
abbrev pub rooted_names : ℕ → List Item → List ℕ
rooted_names c (RootDir ∷ xs) = c ∷ joined_names c xs
rooted_names c xs = joined_names c xs

-- the components of a path as they are written with a separator: first the prefix, if there is one, as it is
abbrev pub written : ℕ → List Item → List ℕ
written c (Prefix s ∷ xs) = s ++ rooted_names c xs
written c xs = rooted_names c xs

-- with a separator more after the prefix
abbrev pub written_apart : ℕ → List Item → List ℕ
written_apart c (Prefix s ∷ xs) = s ++ (c ∷ rooted_names c xs)
written_apart c xs = rooted_names c xs

-- the prefix is `\\?\UNC\server`, which a name after one separator would belong to
abbrev pub LacksShare : Kind → Type 0
LacksShare (Verbatim name) = ⊥
LacksShare (VerbatimUnc server share) = share ≡ []
LacksShare (VerbatimDisk letter) = ⊥
LacksShare (Device name) = ⊥
LacksShare (Unc server share) = ⊥
LacksShare (Disk letter) = ⊥

abbrev pub HasEmptyShare : List ℕ → Type 0
HasEmptyShare s = (kind : Kind) × ((rest : List ℕ) × (IsPrefixOf s kind rest × LacksShare kind))

-- a name comes after the root of such a prefix
abbrev pub NamesAShare : Style → List Item → Type 0
NamesAShare style.Unix items = ⊥
NamesAShare style.Windows (Prefix s ∷ RootDir ∷ x ∷ xs) = HasEmptyShare s
NamesAShare style.Windows items = ⊥

-- the path begins with a separator, `??`, and a separator or its end: Windows takes `\??\` for its object manager's directory, as it takes `\\?\` (Go's `filepath.Clean`)
abbrev pub BeginsAsObject : List ℕ → Type 0
BeginsAsObject [] = ⊥
BeginsAsObject (a ∷ []) = ⊥
BeginsAsObject (a ∷ b ∷ []) = ⊥
BeginsAsObject (a ∷ b ∷ c ∷ s) = (separates rules.Either a ≡ true) × ((b ≡ 0x3F) × ((c ≡ 0x3F) × Edge rules.Either s))

-- `??`
abbrev pub object_dir : List ℕ
object_dir = 0x3F ∷ 0x3F ∷ []

-- the first name after the root of a path without a prefix is `??`
abbrev pub NamesAnObject : Style → List Item → Type 0
NamesAnObject style.Unix items = ⊥
NamesAnObject style.Windows (RootDir ∷ Normal s ∷ xs) = s ≡ object_dir
NamesAnObject style.Windows items = ⊥

-- these components as they are written with the main separator; it is there once more after a prefix whose share the first name would be
abbrev pub IsWrittenOut : Style → List Item → List ℕ → Type 0
IsWrittenOut w items path = (NamesAShare w items × (path ≡ written_apart (main_separator w) items)) ⊎ (¬ (NamesAShare w items) × (path ≡ written (main_separator w) items))

-- the path is these components as they are written; before a root and `??` comes `\.`, which names nothing
abbrev pub IsWritten : Style → List Item → List ℕ → Type 0
IsWritten w items path = (NamesAnObject w items × (path ≡ main_separator w ∷ 0x2E ∷ written (main_separator w) items)) ⊎ (¬ (NamesAnObject w items) × IsWrittenOut w items path)

-- the path has these components and is written from them
abbrev pub IsPathOf : Style → List Item → List ℕ → Type 0
IsPathOf w items path = AreComponents w path items × IsWritten w items path
