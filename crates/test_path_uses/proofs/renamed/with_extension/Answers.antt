use Rattle.platform_str.specs.Strings.{bytes, path_bytes, path_vec_of}
use Rattle.test_path_uses.proofs.Both.{with_ok}
use Rattle.test_path_uses.proofs.LastNames.{after_stem, done_where_named, ends_in_stem, nothing_done}
use Rattle.test_path_uses.proofs.renamed.with_extension.Goals as goal

pub returns-clause-stem : goal.returns-clause-stem
returns-clause-stem g c =
    let w = g.E.PathStyle.follows in
    let path = path_bytes c.args.path in
    with_ok c.with_extension.result c.with_extension.ensures (λ made h items stem are has.
    after_stem c.one_extension.ensures w path (bytes c.args.extension) (path_vec_of made).items stem (done_where_named w path (path_vec_of made).items h.0 items has.0 are h.1 has.1.0) has)

pub returns-clause-kept : goal.returns-clause-kept
returns-clause-kept g c =
    let w = g.E.PathStyle.follows in
    let path = path_bytes c.args.path in
    with_ok c.with_extension.result c.with_extension.ensures (λ made h none.
    nothing_done w path (path_vec_of made).items (ends_in_stem w path (bytes c.args.extension) (path_vec_of made).items) h.0 h.1 none)
