use Rattle.platform_str.specs.Strings.{bytes, path_vec_of}
use Rattle.test_path_uses.proofs.Both.{with_ok}
use Rattle.test_path_uses.proofs.LastNames.{after_name, done, kept, always}
use Rattle.test_path_uses.proofs.changed.extended_again.Goals as goal

pub returns-clause-name : goal.returns-clause-name
returns-clause-name g c =
    let w = g.E.PathStyle.follows in
    let old = (path_vec_of c.args.path.now).items in
    let new = (path_vec_of c.add_extension.new.path).items in
    with_ok c.add_extension.result c.add_extension.ensures.ok (λ is_added h t some name has.
    after_name w old (bytes c.args.extension) new name (done w old new is_added h t) some has)

pub returns-clause-always : goal.returns-clause-always
returns-clause-always g c =
    let new = (path_vec_of c.add_extension.new.path).items in
    with_ok c.add_extension.result c.add_extension.ensures.ok (λ is_added h items name are has.
    always g.E.PathStyle.follows (path_vec_of c.args.path.now).items new is_added items name are h has)

pub returns-clause-kept : goal.returns-clause-kept
returns-clause-kept g c =
    let new = (path_vec_of c.add_extension.new.path).items in
    with_ok c.add_extension.result c.add_extension.ensures.ok (λ is_added h e. kept g.E.PathStyle.follows (path_vec_of c.args.path.now).items new is_added h e)

pub returns-clause-refused : goal.returns-clause-refused
returns-clause-refused g c = c.add_extension.ensures.err
