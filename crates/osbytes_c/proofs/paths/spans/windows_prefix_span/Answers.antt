use Rattle.std.proofs.Common.{refl, subst, sym, ap, length, length-append, arith}
use Rattle.path_rules.specs.Prefix.{IsPrefixOf}
use Rattle.path_rules.specs.PrefixViews.{kind_of}
use Rattle.path_rules.proofs.lemmas.AfterPrefix.{after_prefix}
use Rattle.osbytes_c.proofs.lemmas.PathSpans.{dropped_end}
use Rattle.osbytes_c.proofs.paths.spans.windows_prefix_span.Goals as goal

pub overflow_sub-result : goal.overflow_sub-result
overflow_sub-result c =
    let rest = c.in-Some.rest.now in
    let h = after_prefix c.args.path.now (kind_of c.in-Some.field-0-0) rest c.in-Some.ensures in
    omega (arith, ap length h.joined, length-append h.before rest)

pub returns-clause-part : goal.returns-clause-part
returns-clause-part c =
    let path = c.args.path.now in
    let rest = c.in-Some.rest.now in
    let kind = kind_of c.in-Some.field-0-0 in
    let h = after_prefix path kind rest c.in-Some.ensures in
    record { windows = refl; start = refl; kind = kind; is = subst (IsPrefixOf path kind) (sym (dropped_end path h.before rest h.joined)) c.in-Some.ensures }

pub returns-clause-within : goal.returns-clause-within
returns-clause-within c = (omega arith, omega arith)
