use Rattle.std.proofs.Common.{◌≡◌, ◌≤◌, ◌++◌, take, sym, ap, ◌∙◌, subst, arith}
use Rattle.std.proofs.lemmas.List.{take-take}
use Rattle.path_building.specs.Join.{IsVerbatimPath, IsJoin, resolving}
use Rattle.path_building.specs.Resolved.{IsResolved}
use Rattle.path_building.proofs.lemmas.Joins.{on_windows}
use Rattle.path_building.proofs.joining.join_after.Goals as goal

pub returns-in_ok-set_end-in-Some-clause-ok : goal.returns-in_ok-set_end-in-Some-clause-ok
returns-in_ok-set_end-in-Some-clause-ok g c =
    let w = c.args.style in
    let all = c.args.vec.now.items in
    let n = c.args.len in
    let k = c.in-Some.kept.len in
    let path = c.args.path.now in
    let end = c.in-Some.kept.separator.now ++ path in
    let base : c.split_at.result.0.now ≡ take n all = c.split_at.ensures.front ∙ ap (take n) c.as_slice.ensures.value in
    let long : k ≤ n = omega (arith, c.in-Some.ensures.0, c.split_at.ensures.front_len) in
    let kept : take k c.split_at.result.0.now ≡ take k all = ap (take k) base ∙ take-take k n all long in
    subst (IsJoin w (take n all) path) (ap (λ x. x ++ end) kept ∙ sym c.in_ok-set_end-in-Some.ensures.ok)
    (subst (λ x. IsJoin w x path (take k c.split_at.result.0.now ++ end)) base c.in-Some.ensures.2)

pub returns-in_ok-vec-in-None-clause-ok : goal.returns-in_ok-vec-in-None-clause-ok
returns-in_ok-vec-in-None-clause-ok g c =
    let w = c.args.style in
    let all = c.args.vec.now.items in
    let path = c.args.path.now in
    let base : c.split_at.result.0.now ≡ take c.args.len all = c.split_at.ensures.front ∙ ap (take c.args.len) c.as_slice.ensures.value in
    resolving c.in-None.ensures.0 (subst (IsVerbatimPath w) base c.in-None.ensures.1.0) c.in-None.ensures.1.1
    (subst (λ x. IsResolved x path c.in_ok-vec-in-None.field-0.items) base c.in_ok-vec-in-None.ensures)

pub resolve-requires-clause-verbatim : goal.resolve-requires-clause-verbatim
resolve-requires-clause-verbatim g c = (on_windows c.args.style c.split_at.result.0.now c.args.path.now c.in-None.ensures.1.0 c.in-None.ensures.0).0

pub resolve-requires-clause-bare : goal.resolve-requires-clause-bare
resolve-requires-clause-bare g c = (on_windows c.args.style c.split_at.result.0.now c.args.path.now c.in-None.ensures.1.0 c.in-None.ensures.0).1
