use Rattle.platform_str.specs.Strings.{bytes, path_vec_of}
use Rattle.test_path_uses.proofs.Both.{with_ok}
use Rattle.test_path_uses.proofs.LastNames.{after_stem, done, kept, always}
use Rattle.test_path_uses.proofs.changed.extended.Goals as goal

pub returns-clause-stem : goal.returns-clause-stem
returns-clause-stem g c =
    let w = g.E.PathStyle.follows in
    let old = (path_vec_of c.args.path.now).items in
    let new = (path_vec_of c.set_extension.new.path).items in
    with_ok c.set_extension.result c.set_extension.ensures.ok (λ is_set h t stem has.
    after_stem c.one_extension.ensures w old (bytes c.args.extension) new stem (done w old new is_set h t) has)

pub returns-clause-always : goal.returns-clause-always
returns-clause-always g c =
    let new = (path_vec_of c.set_extension.new.path).items in
    with_ok c.set_extension.result c.set_extension.ensures.ok (λ is_set h items name are has.
    always g.E.PathStyle.follows (path_vec_of c.args.path.now).items new is_set items name are h has)

pub returns-clause-kept : goal.returns-clause-kept
returns-clause-kept g c =
    let new = (path_vec_of c.set_extension.new.path).items in
    with_ok c.set_extension.result c.set_extension.ensures.ok (λ is_set h e. kept g.E.PathStyle.follows (path_vec_of c.args.path.now).items new is_set h e)

pub returns-clause-refused : goal.returns-clause-refused
returns-clause-refused g c = c.set_extension.ensures.err
