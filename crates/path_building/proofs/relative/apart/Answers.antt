use Rattle.std.proofs.Common.{map}
use Rattle.path_rules.specs.Views.{item_of}
use Rattle.path_building.proofs.lemmas.Joins.{refuted}
use Rattle.path_building.proofs.lemmas.Places.{unlike_heads}
use Rattle.path_building.proofs.relative.apart.Goals as goal

pub returns-then-not-are_alike : goal.returns-then-not-are_alike
returns-then-not-are_alike c =
    let left = c.loop-left.left.now in
    let wanted = c.loop-left.wanted.now in
    let no = refuted _ c.are_alike.result c.are_alike.ensures c.if-not-are_alike.true in
    c.loop-left.invariant (map item_of left) (map item_of wanted) (unlike_heads item_of item_of left wanted _ _ c.in-len1-up.len_at_least c.in-len1-up-wanted.len_at_least no)
