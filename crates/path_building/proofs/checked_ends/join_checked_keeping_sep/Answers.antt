use Rattle.std.proofs.lemmas.Result.{err_from_is_err_and}
use Rattle.path_building.proofs.lemmas.KeptEnds.{kept_below}
use Rattle.path_building.proofs.checked_ends.join_checked_keeping_sep.Goals as goal

pub returns-clause-ok : goal.returns-clause-ok
returns-clause-ok g c = record { joined = c.in_ok-joined.joined.items; checked = c.in_ok-joined.ensures.ok; end = c.in_ok-end_as.ensures }

pub returns-clause-below : goal.returns-clause-below
returns-clause-below g c = kept_below c.args.style c.args.base.now c.args.path.now c.in_ok-joined.joined.items c.end_as.new.path.items c.in_ok-joined.ensures.ok c.in_ok-joined.ensures.below c.in_ok-end_as.ensures

pub returns-in_err-end_as-clause-err : goal.returns-in_err-end_as-clause-err
returns-in_err-end_as-clause-err g c =
    let e = err_from_is_err_and c.from_residual-in_err-end_as.result c.from_residual-in_err-end_as.ensures.1 in
    rw (e.1, e.2) (c.in_ok-joined.ensures.ok.place, tt)
