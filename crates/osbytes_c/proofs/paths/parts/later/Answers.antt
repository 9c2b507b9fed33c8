use Rattle.std.proofs.Common.{◌++◌, ap}
use Rattle.path_rules.specs.Views.{item_of}
use Rattle.osbytes_c.proofs.lemmas.PathParts.{named_last}
use Rattle.osbytes_c.proofs.paths.parts.later.Goals as goal

pub returns-clause-last : goal.returns-clause-last
returns-clause-last c = λ done h.
    (done, ap (λ x. done ++ x) (named_last c.args.rules c.args.at c.args.part.now (item_of c.in-Some.component) c.kind_number.result c.in-Some.ensures.names c.kind_number.ensures))
