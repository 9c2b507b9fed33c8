use Rattle.std.proofs.Common.{arith}
use Rattle.osbytes_c.proofs.lemmas.PathSpans.{parts_there}
use Rattle.osbytes_c.proofs.uses.path_parts.components_in.Goals as goal

pub returns-in-0-clause-ok : goal.returns-in-0-clause-ok
returns-in-0-clause-ok c = parts_there (c.osb_core_path_components.ensures.written.0 c.in-0.is)

pub returns-in_default-clause-room : goal.returns-in_default-clause-room
returns-in_default-clause-room c = λ is.
    let done = c.osb_core_path_components.ensures.written.1 is in
    (done.0.0, (done.0.1.0, omega (arith, done.1, done.0.1.1.count_is)))
