-- Paths without `.` and `..`: what they name where no name is a symbolic link.
use Rattle.std.specs.Prelude.{ℕ, List, [], ◌∷◌, reverse}
use Rattle.path_rules.specs.Component.{Item, Prefix, RootDir, CurDir, ParentDir, Normal}

-- names alone
abbrev pub AreNames : List Item → Type 0
AreNames [] = Unit {0}
AreNames (Prefix s ∷ xs) = ⊥
AreNames (RootDir ∷ xs) = ⊥
AreNames (CurDir ∷ xs) = ⊥
AreNames (ParentDir ∷ xs) = ⊥
AreNames (Normal s ∷ xs) = AreNames xs

-- the components, from the last to the first, lead to these: a name adds itself, `..` takes the name before it away, and `.` changes nothing but at the start; where `..` has no name before it, they lead nowhere
pub data LeadsTo : List Item → List Item → Type 0 where
  nowhere : LeadsTo [] []
  prefix : {s : List ℕ} → LeadsTo (Prefix s ∷ []) (Prefix s ∷ [])
  bare_root : LeadsTo (RootDir ∷ []) (RootDir ∷ [])
  root : {s : List ℕ} → LeadsTo (RootDir ∷ Prefix s ∷ []) (RootDir ∷ Prefix s ∷ [])
  start : LeadsTo (CurDir ∷ []) (CurDir ∷ [])
  here : {xs : List Item} {y : Item} {ys : List Item} → LeadsTo xs (y ∷ ys) → LeadsTo (CurDir ∷ xs) (y ∷ ys)
  name : {s : List ℕ} {xs ys : List Item} → LeadsTo xs ys → LeadsTo (Normal s ∷ xs) (Normal s ∷ ys)
  up : {s : List ℕ} {xs ys : List Item} → LeadsTo xs (Normal s ∷ ys) → LeadsTo (ParentDir ∷ xs) ys

-- the normal form of a path's components
abbrev pub AreNormalOf : List Item → List Item → Type 0
AreNormalOf items normal = LeadsTo (reverse items) (reverse normal)
