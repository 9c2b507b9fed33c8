use Rattle.osbytes_c.proofs.lemmas.PathSpans.{is_name_span}
use Rattle.osbytes_c.proofs.paths.spans.name_span.Goals as goal

pub returns-clause-part : goal.returns-clause-part
returns-clause-part c = is_name_span c.args.style c.args.path.now c.in-Some.name c.in-Some.ensures.name
