use Rattle.platform_str.specs.Strings.{bytes, path_bytes, path_vec_of}
use Rattle.test_path_uses.proofs.Both.{with_ok}
use Rattle.test_path_uses.proofs.LastNames.{after_name, done_where_named, ends_in_name, nothing_done}
use Rattle.test_path_uses.proofs.renamed.with_another.Goals as goal

pub returns-clause-name : goal.returns-clause-name
returns-clause-name g c =
    let w = g.E.PathStyle.follows in
    let path = path_bytes c.args.path in
    with_ok c.with_added_extension.result c.with_added_extension.ensures (λ made h items name some are has.
    after_name w path (bytes c.args.extension) (path_vec_of made).items name (done_where_named w path (path_vec_of made).items h.0 items name are h.1 has) some has)

pub returns-clause-kept : goal.returns-clause-kept
returns-clause-kept g c =
    let w = g.E.PathStyle.follows in
    let path = path_bytes c.args.path in
    with_ok c.with_added_extension.result c.with_added_extension.ensures (λ made h none.
    nothing_done w path (path_vec_of made).items (ends_in_name w path (bytes c.args.extension) (path_vec_of made).items) h.0 h.1 none)
