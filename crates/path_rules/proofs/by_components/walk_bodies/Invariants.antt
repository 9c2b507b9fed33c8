use Rattle.std.proofs.Common.{◌≡◌, length}
use Rattle.path_rules.specs.Component.{components_in}
use Rattle.path_rules.specs.Keys.{keys_cmp, item_keys}
use Rattle.path_rules.proofs.by_components.walk_bodies.Given as goal

abbrev pub invariant-loop-x : goal.invariant-loop-x
invariant-loop-x l =
    keys_cmp (item_keys (components_in l.rules l.a)) (item_keys (components_in l.rules l.b)) ≡ keys_cmp (item_keys (components_in l.rules l.left)) (item_keys (components_in l.rules l.right))

abbrev pub decreases-loop-x : goal.decreases-loop-x
decreases-loop-x l = length (components_in l.rules l.left)
