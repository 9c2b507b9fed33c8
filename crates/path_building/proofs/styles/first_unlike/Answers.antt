use Rattle.std.proofs.Common.{length, map}
use Rattle.path_rules.specs.Views.{item_of}
use Rattle.path_building.proofs.lemmas.Joins.{refuted}
use Rattle.path_building.proofs.lemmas.Restyles.{found, next, shorter}
use Rattle.path_building.proofs.styles.first_unlike.Goals as goal

pub returns-then-not-is_had : goal.returns-then-not-is_had
returns-then-not-is_had c =
    let no = refuted _ c.is_had.result c.is_had.ensures c.if-not-is_had.true in
    found c.args.to item_of c.loop-left.index c.loop-left.first _ (map item_of c.args.items.now) c.loop-left.left.now c.in-len1-up.len_at_least c.loop-left.invariant.0 no

pub loop-left-preserved : goal.loop-left-preserved
loop-left-preserved c =
    let left = c.loop-left.left.now in
    let long = c.in-len1-up.len_at_least in (
      next c.args.to item_of c.loop-left.index c.loop-left.first _ (map item_of c.args.items.now) left long c.loop-left.invariant.0 (c.is_had.ensures.0 c.if-not-is_had.false),
      shorter c.loop-left.index (length c.args.items.now) left long c.loop-left.invariant.1,
    )
