use Rattle.platform_str.specs.Strings.{bytes, path_bytes, path_vec_of}
use Rattle.test_path_uses.proofs.Both.{with_ok}
use Rattle.test_path_uses.proofs.LastNames.{named_unix}
use Rattle.test_path_uses.proofs.renamed.with_name.Goals as goal

pub returns : goal.returns
returns g c =
    with_ok c.with_file_name.result c.with_file_name.ensures (λ named h items last are alone.
    named_unix c.one_list.ensures.items c.join_components.ensures.empty c.join_components.ensures.both (path_bytes c.args.path) (bytes c.args.name) (path_vec_of named).items h items last are alone)
