use Rattle.platform_str.specs.Strings.{path_bytes, path_vec_of}
use Rattle.test_path_uses.proofs.Both.{with_ok, with_err}
use Rattle.test_path_uses.proofs.Checks.{names_follow, only_memory}
use Rattle.test_path_uses.proofs.checked.let_through.Goals as goal

pub returns-clause-ok : goal.returns-clause-ok
returns-clause-ok g c =
    with_ok c.join_checked.result c.join_checked.ensures.ok (λ joined h items names are checked.
    names_follow c.one_list.ensures.items c.normal_forms.ensures.one g.E.PathStyle.follows (path_bytes c.args.base) (path_bytes c.args.path) (path_vec_of joined).items h items names are checked)

pub returns-clause-err : goal.returns-clause-err
returns-clause-err g c =
    with_err c.join_checked.result c.join_checked.ensures.err (λ error h names checked place.
    only_memory c.one_list.ensures.items c.normal_forms.ensures.one g.E.PathStyle.follows (path_bytes c.args.base) (path_bytes c.args.path) error h names checked place)
