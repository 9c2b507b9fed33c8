use Rattle.platform_str.specs.Strings.{path_bytes, path_vec_of}
use Rattle.test_path_uses.proofs.Both.{with_ok}
use Rattle.test_path_uses.proofs.Checks.{kept_end}
use Rattle.test_path_uses.proofs.checked.unpacked_directory.Goals as goal

pub returns-clause-ended : goal.returns-clause-ended
returns-clause-ended g c =
    with_ok c.join_checked_keeping_sep.result c.join_checked_keeping_sep.ensures.ok (λ directory h ends. kept_end g.E.PathStyle.follows (path_bytes c.args.folder) (path_bytes c.args.name) (path_vec_of directory).items h ends)
