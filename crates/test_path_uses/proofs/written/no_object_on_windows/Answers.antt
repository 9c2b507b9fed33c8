use Rattle.platform_str.specs.Strings.{path_bytes, path_vec_of}
use Rattle.test_path_uses.proofs.Both.{with_ok}
use Rattle.test_path_uses.proofs.MainSeparators.{restyled_no_object}
use Rattle.test_path_uses.proofs.written.no_object_on_windows.Goals as goal

pub returns : goal.returns
returns g c =
    with_ok c.with_style.result c.with_style.ensures.ok (λ made h. restyled_no_object c.no_object.ensures (path_bytes c.args.path) (path_vec_of made).items h)
