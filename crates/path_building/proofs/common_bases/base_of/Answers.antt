use Rattle.std.proofs.Common.{map, length, ◌+◌, arith}
use Rattle.path_building.specs.CommonBase.{bytes_of}
use Rattle.path_building.proofs.lemmas.CommonBases.{not_walked, step}
use Rattle.path_building.proofs.lemmas.Restyles.{shorter}
use Rattle.path_building.proofs.common_bases.base_of.Goals as goal

pub loop-left-init : goal.loop-left-init
loop-left-init c = (not_walked c.args.style c.args.first.now (map bytes_of c.args.others.now) c.end_trimmed-base.result.now c.end_trimmed-base.ensures, omega arith)

pub common_base_with-requires : goal.common_base_with-requires
common_base_with-requires c = c.loop-left.invariant.0.based.front

pub loop-left-preserved : goal.loop-left-preserved
loop-left-preserved c =
    let left = c.loop-left.left.now in
    let long = c.in-len1-up.len_at_least in (
      step c.args.style bytes_of c.args.first.now (map bytes_of c.args.others.now) _ c.loop-left.index c.loop-left.base.now left long c.loop-left.invariant.0 c.in_ok-base.ensures.ok.0 _ c.in_ok-base.ensures.ok.1,
      shorter c.loop-left.index (length c.args.others.now + 1) left long c.loop-left.invariant.1,
    )
