use Rattle.std.proofs.Common.{subst}
use Rattle.std.proofs.lemmas.Result.{err_from_is_err_and}
use Rattle.path_building.specs.Base.{IsBase}
use Rattle.path_building.specs.Faults.{IsNameFault}
use Rattle.path_building.proofs.lemmas.Bases.{is_base}
use Rattle.path_building.proofs.checked.join_checked.Goals as goal

pub returns-in_err-join-clause-err : goal.returns-in_err-join-clause-err
returns-in_err-join-clause-err g c =
    let w = c.args.style in
    let e = err_from_is_err_and c.from_residual-in_err-join.result c.from_residual-in_err-join.ensures.1 in
    let b = c.in_ok-base.base in
    let place = subst (IsBase w) c.in_ok-base.ensures.path (subst (λ v. IsBase v b.parsed.whole.now) c.in_ok-base.ensures.style (is_base b.parsed.style b.parsed.whole.now b.complete)) in
    let fault = subst (λ v. IsNameFault v c.args.path.now c.in_err-join.field-0.0) c.in_ok-base.ensures.style c.in_err-join.ensures.err in
    rw (e.1, e.2) (place, fault)
