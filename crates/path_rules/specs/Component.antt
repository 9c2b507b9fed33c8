-- What the parts between separators name.
use Rattle.std.specs.Prelude.{◌≡◌, ◌≢◌, ◌++◌, ℕ, nat_eq, ◌&&◌, if◌then◌else◌, List, [], ◌∷◌, Option, Some, None}
use Rattle.std.specs.List.{slice_split, filter_map}
use Rattle.path_rules.specs.declared.rules.Rules.{Rules}
use Rattle.path_rules.specs.declared.rules.Rules.TheVariants.{Slash, Either, Verbatim}
use Rattle.path_rules.specs.Separators.{separates}

-- a component: the prefix, the root, `.`, `..`, or a name
pub data Item : Type 0 where
  Prefix : List ℕ → Item
  RootDir : Item
  CurDir : Item
  ParentDir : Item
  Normal : List ℕ → Item

-- `.` names the directory that it is in, so it is left out; a verbatim path isn't resolved
abbrev pub dot : Rules → Option Item
dot Slash = None
dot Either = None
dot Verbatim = Some CurDir

-- what a part names
abbrev pub named : Rules → List ℕ → Option Item
named r [] = None
named r (a ∷ []) = if nat_eq a 0x2E then dot r else Some (Normal (a ∷ []))
named r (a ∷ b ∷ []) = if nat_eq a 0x2E && nat_eq b 0x2E then Some ParentDir else Some (Normal (a ∷ b ∷ []))
named r (a ∷ b ∷ c ∷ s) = Some (Normal (a ∷ b ∷ c ∷ s))

-- the components of what follows the root: those that the parts between separators name
abbrev pub components_in : Rules → List ℕ → List Item
components_in r s = filter_map (named r) (slice_split (separates r) s)

-- the last part of s names a component, unless s is empty
abbrev pub EndsNamed : Rules → List ℕ → Type 0
EndsNamed r s = (parts : List (List ℕ)) (part : List ℕ) → s ≢ [] → slice_split (separates r) s ≡ parts ++ part ∷ [] → named r part ≢ None
