use Rattle.std.proofs.Common.{◌≡◌, ◌++◌, take, ap, sym, ◌∙◌, subst, append_assoc}
use Rattle.path_building.specs.Join.{IsJoin, resolving}
use Rattle.path_building.specs.Resolved.{IsResolved}
use Rattle.path_building.proofs.lemmas.Joins.{if_ok, on_windows}
use Rattle.path_building.proofs.joining.join.Goals as goal

pub resolve-requires-clause-verbatim : goal.resolve-requires-clause-verbatim
resolve-requires-clause-verbatim g c = (on_windows c.args.style c.args.base.now c.args.path.now c.in_default.ensures.1.0 c.in_default.ensures.0).0

pub resolve-requires-clause-bare : goal.resolve-requires-clause-bare
resolve-requires-clause-bare g c = (on_windows c.args.style c.args.base.now c.args.path.now c.in_default.ensures.1.0 c.in_default.ensures.0).1

pub returns-in_default : goal.returns-in_default
returns-in_default g c =
    let w = c.args.style in
    let base = c.args.base.now in
    let path = c.args.path.now in
    if_ok (λ joined. IsResolved base path joined.items) (λ joined. IsJoin w base path joined.items) (λ joined h. resolving c.in_default.ensures.0 c.in_default.ensures.1.0 c.in_default.ensures.1.1 h) c.resolve.result c.resolve.ensures

pub returns : goal.returns
returns g c =
    let w = c.args.style in
    let base = c.args.base.now in
    let path = c.args.path.now in
    let n = c.in-Some.kept.len in
    let sep = c.in-Some.kept.separator.now in
    let all : c.extend_from_slice-3.new.self.items ≡ take n base ++ (sep ++ path) =
    c.in_ok-extend_from_slice-3.ensures.items
    ∙ ap (λ x. x ++ path) (c.in_ok-extend_from_slice-2.ensures.items ∙ ap (λ x. x ++ sep) (c.in_ok-extend_from_slice.ensures.items ∙ ap (λ x. x ++ take n base) c.in_ok-joined.ensures.items))
    ∙ append_assoc (take n base) sep path in
    subst (IsJoin w base path) (sym all) c.in-Some.ensures.2
