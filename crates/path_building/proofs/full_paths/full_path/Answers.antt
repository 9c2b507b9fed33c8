use Rattle.std.proofs.Common.{rules, ◌≡◌, ◌↔◌, IsTrue, [], inr, sym, subst}
use Rattle.std.proofs.lemmas.Result.{err_from_is_err_and}
use Rattle.path_building.specs.FullPath.{IsPlaceable, IsAbsoluteFault}
use Rattle.path_building.proofs.lemmas.FullPaths.{placed_fault}
use Rattle.path_building.proofs.lemmas.Joins.{refuted}
use Rattle.path_building.proofs.full_paths.full_path.Goals as goal

pub returns-in_err-full-clause-err : goal.returns-in_err-full-clause-err
returns-in_err-full-clause-err g c =
    let w = c.args.path.now.style in
    let path = c.args.path.now.whole.now in
    let empty : IsTrue c.is_empty.result ↔ (path ≡ []) = Prim.search rules in
    let placeable : IsPlaceable w path = record {
      some = refuted _ c.is_empty.result empty c.if-is_empty.false;
      whole = refuted _ c.is_open.result c.is_open.ensures c.if-is_open.false;
      free = c.are_names_free.ensures.0 c.if-not-are_names_free.false;
    } in
    let fault = placed_fault w path c.args.directory.now _ placeable c.in_err-full.ensures.err in
    let e = err_from_is_err_and c.from_residual-in_err-full.result c.from_residual-in_err-full.ensures.1 in
    rw e.1 (subst (IsAbsoluteFault w path c.args.directory.now) (sym e.2) fault)

pub returns-clause-ok : goal.returns-clause-ok
returns-clause-ok g c =
    let path = c.args.path.now.whole.now in
    let empty : IsTrue c.is_empty.result ↔ (path ≡ []) = Prim.search rules in
    inr (record {
      plain = refuted _ c.is_device.result c.is_device.ensures c.if-is_device.false;
      placeable = record {
        some = refuted _ c.is_empty.result empty c.if-is_empty.false;
        whole = refuted _ c.is_open.result c.is_open.ensures c.if-is_open.false;
        free = c.are_names_free.ensures.0 c.if-not-are_names_free.false;
      };
      mid = c.in_ok-full.full.items;
      placed = c.in_ok-full.ensures.ok;
      end = c.in_ok-end_as.ensures;
    })
