use Rattle.platform_str.specs.Strings.{bytes, path_bytes, path_vec_of}
use Rattle.test_path_uses.proofs.Both.{with_ok}
use Rattle.test_path_uses.proofs.LastNames.{kept_without_name}
use Rattle.test_path_uses.proofs.renamed.with_stem.Goals as goal

pub returns-clause-kept : goal.returns-clause-kept
returns-clause-kept g c =
    let w = g.E.PathStyle.follows in
    let path = path_bytes c.args.path in
    with_ok c.with_file_stem.result c.with_file_stem.ensures (λ made h none. kept_without_name w path (bytes c.args.stem) (path_vec_of made).items h none)
