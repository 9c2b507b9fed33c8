use Rattle.std.proofs.Common.{arith}
use Rattle.osbytes_c.proofs.paths.spans.stem_span.Goals as goal

pub returns-clause-part : goal.returns-clause-part
returns-clause-part c =
    let found = c.stem_in.ensures in
    record { name = c.in-Some.name; is_name = c.in-Some.ensures.part; start = found.start; stem = found.stem }

pub returns-clause-within : goal.returns-clause-within
returns-clause-within c =
    let found = c.stem_in.ensures in
    let within = c.in-Some.ensures.within in
    (omega (arith, found.start, found.within.0), omega (arith, found.within.1, within.1))
