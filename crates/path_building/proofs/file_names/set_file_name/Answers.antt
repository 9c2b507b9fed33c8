use Rattle.std.proofs.Common.{◌≡◌, length, take, sym, ap, ◌∙◌, subst}
use Rattle.path_building.specs.FileName.{IsNameBase}
use Rattle.path_building.specs.Join.{IsJoin}
use Rattle.path_building.proofs.file_names.set_file_name.Goals as goal

pub returns-clause-ok : goal.returns-clause-ok
returns-clause-ok g c =
    let w = c.args.style in
    let path = c.args.path.now.items in
    let base = c.name_base-len.result.now in
    let e = c.as_slice.ensures.value in
    let same : take (length base) path ≡ base = ap (take (length base)) (sym e) ∙ c.name_base-len.ensures.prefix.1 in
    (base, (subst (λ x. IsNameBase w x base) e c.name_base-len.ensures.base, subst (λ x. IsJoin w x c.args.name.now c.join_after.new.vec.items) same c.in_ok-join_after.ensures.ok))
