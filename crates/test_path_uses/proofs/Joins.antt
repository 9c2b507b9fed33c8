-- A path has one list of components.
use Rattle.std.proofs.Common.{◌≡◌, ℕ, List}
use Rattle.path_rules.specs.declared.rules.Style as whose
use Rattle.path_rules.specs.Component.{Item}
use Rattle.path_rules.specs.Components.{AreComponents}

abbrev pub OneList : Type 0
OneList = (w : whose.Style) (s : List ℕ) (a b : List Item) → AreComponents w s a → AreComponents w s b → a ≡ b
