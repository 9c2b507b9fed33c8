use Rattle.platform_str.specs.Strings.{path_vec_of}
use Rattle.test_path_uses.proofs.PathParts.{parent_items, takes_last}
use Rattle.test_path_uses.proofs.changed.popped.Goals as goal

pub returns-clause-taken : goal.returns-clause-taken
returns-clause-taken g c = λ t items last are.
    parent_items g.E.PathStyle.follows (path_vec_of c.args.path.now).items (path_vec_of c.pop.new.path).items (c.one_list.ensures.items g.E.PathStyle.follows (path_vec_of c.args.path.now).items) (c.pop.ensures.some t) items last are

pub returns-clause-always : goal.returns-clause-always
returns-clause-always g c = λ items last are below.
    takes_last g.E.PathStyle.follows (path_vec_of c.args.path.now).items c.pop.result (λ e. (c.pop.ensures.none e).0) items last are below

pub returns-clause-kept : goal.returns-clause-kept
returns-clause-kept g c = λ e. (c.pop.ensures.none e).1
