use Rattle.platform_str.specs.Strings.{path_bytes, path_vec_of}
use Rattle.test_path_uses.proofs.Both.{with_err, with_ok}
use Rattle.test_path_uses.proofs.FullPaths.{kept_device, relative_alone}
use Rattle.test_path_uses.proofs.full_paths.full_path.Goals as goal

pub returns-clause-absolute : goal.returns-clause-absolute
returns-clause-absolute g c =
    with_ok c.absolute.result c.absolute.ensures.ok (λ full h. c.full_paths.ensures g.E.PathStyle.follows (path_bytes c.args.path) (path_bytes c.args.directory) (path_vec_of full).items h)

pub returns-clause-kept : goal.returns-clause-kept
returns-clause-kept g c =
    with_ok c.absolute.result c.absolute.ensures.ok (λ full h device. kept_device g.E.PathStyle.follows (path_bytes c.args.path) (path_bytes c.args.directory) (path_vec_of full).items h device)

pub returns-clause-relative : goal.returns-clause-relative
returns-clause-relative g c =
    with_err c.absolute.result c.absolute.ensures.err (λ e h same. relative_alone g.E.PathStyle.follows (path_bytes c.args.path) (path_bytes c.args.directory) e h same)
