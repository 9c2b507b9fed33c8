use Rattle.platform_str.specs.Strings.{bytes, path_vec_of}
use Rattle.test_path_uses.proofs.Both.{with_on_ok}
use Rattle.test_path_uses.proofs.LastNames.{named_unix}
use Rattle.test_path_uses.proofs.changed.named.Goals as goal

pub returns-clause-named : goal.returns-clause-named
returns-clause-named g c =
    with_on_ok c.set_file_name.result c.set_file_name.ensures.ok (λ h items last are alone.
    named_unix c.one_list.ensures.items c.join_components.ensures.empty c.join_components.ensures.both (path_vec_of c.args.path.now).items (bytes c.args.name) (path_vec_of c.set_file_name.new.path).items h items last are alone)

pub returns-clause-kept : goal.returns-clause-kept
returns-clause-kept g c = c.set_file_name.ensures.err
