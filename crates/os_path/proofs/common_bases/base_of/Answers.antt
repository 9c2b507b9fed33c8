use Rattle.std.proofs.Common.{map, length, ◌+◌, ap, ◌∙◌, subst, arith}
use Rattle.platform_str.specs.Strings.{path_bytes}
use Rattle.path_building.specs.CommonBase.{BeginAlike, IsShared, IsApart}
use Rattle.path_building.proofs.lemmas.CommonBases.{not_walked, step, apart}
use Rattle.path_building.proofs.lemmas.Restyles.{shorter}
use Rattle.os_path.proofs.common_bases.base_of.Goals as goal

pub loop-left-init : goal.loop-left-init
loop-left-init g c = (not_walked c.args.style c.args.first.now (map path_bytes c.args.others.now) c.end_trimmed-base.result.now c.end_trimmed-base.ensures, omega arith)

pub common_base_with-requires : goal.common_base_with-requires
common_base_with-requires g c = c.loop-left.invariant.0.based.front

pub loop-left-preserved : goal.loop-left-preserved
loop-left-preserved g c =
    let w = c.args.style in
    let first = c.args.first.now in
    let base = c.loop-left.base.now in
    let left = c.loop-left.left.now in
    let long = c.in-len1-up.len_at_least in
    let path = c.path_bytes.ensures.value ∙ ap path_bytes c.path-item.is in
    let shared = c.in-Ok.shared.now in (
      step w path_bytes first (map path_bytes c.args.others.now) _ c.loop-left.index base left long c.loop-left.invariant.0 (subst (BeginAlike w first) path c.in-Ok.ensures.ok.0) shared
          (subst (λ s. IsShared w base s shared) path c.in-Ok.ensures.ok.1),
      shorter c.loop-left.index (length c.args.others.now + 1) left long c.loop-left.invariant.1,
    )

pub returns-in-Err-clause-err : goal.returns-in-Err-clause-err
returns-in-Err-clause-err g c =
    let w = c.args.style in
    let first = c.args.first.now in
    let path = c.path_bytes.ensures.value ∙ ap path_bytes c.path-item.is in
    apart w path_bytes first (map path_bytes c.args.others.now) _ c.loop-left.index c.loop-left.base.now c.loop-left.left.now c.in-len1-up.len_at_least c.loop-left.invariant.0 c.in-Err.error
    (subst (λ s. IsApart w first s c.loop-left.index c.in-Err.error) path c.in-Err.ensures.err)
