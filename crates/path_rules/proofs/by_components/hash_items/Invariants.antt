use Rattle.std.proofs.Common.{◌≡◌, fold, length}
use Rattle.path_rules.specs.Heads.{items_of}
use Rattle.path_rules.specs.Keys.{item_keys, keys_writes}
use Rattle.path_rules.proofs.by_components.hash_items.Given as goal

abbrev pub invariant-loop-item : goal.invariant-loop-item
invariant-loop-item g l = fold g.H.Hasher.write l.state (keys_writes (item_keys (items_of l.left))) ≡ fold g.H.Hasher.write l.initial.state (keys_writes (item_keys (items_of l.items)))

abbrev pub decreases-loop-item : goal.decreases-loop-item
decreases-loop-item g l = length (items_of l.left)
