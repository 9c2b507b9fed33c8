use Rattle.std.proofs.Common.{◌≡◌, length}
use Rattle.path_rules.specs.Heads.{items_of}
use Rattle.path_rules.specs.Keys.{keys_cmp, item_keys}
use Rattle.path_rules.proofs.by_components.walk_items.Given as goal

abbrev pub invariant-loop-x : goal.invariant-loop-x
invariant-loop-x l = keys_cmp (item_keys (items_of l.a)) (item_keys (items_of l.b)) ≡ keys_cmp (item_keys (items_of l.left)) (item_keys (items_of l.right))

abbrev pub decreases-loop-x : goal.decreases-loop-x
decreases-loop-x l = length (items_of l.left)
