-- What is left of a path's components.
use Rattle.std.specs.Prelude.{ℕ, List, [], ◌∷◌, ◌++◌}
use Rattle.path_rules.specs.declared.head.Start.{Start}
use Rattle.path_rules.specs.declared.head.Start.TheVariants.{Root, Dot, Nothing}
use Rattle.path_rules.specs.declared.head.Head.{Head}
use Rattle.path_rules.specs.Component.{Item, Prefix, RootDir, CurDir, components_in}

abbrev pub prefix_items : List ℕ → List Item
prefix_items [] = []
prefix_items (b ∷ s) = Prefix (b ∷ s) ∷ []

abbrev pub start_items : Start → List Item
start_items Root = RootDir ∷ []
start_items Dot = CurDir ∷ []
start_items Nothing = []

abbrev pub items_of : Head → List Item
items_of h = prefix_items h.prefix.now ++ (start_items h.start ++ components_in h.rules h.body.now)
