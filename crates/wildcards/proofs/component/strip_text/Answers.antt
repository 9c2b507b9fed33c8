use Rattle.std.proofs.Common.{rules}
use Rattle.std.proofs.lemmas.List.{nil_from_length}
use Rattle.wildcards.proofs.lemmas.Beginnings.{other_prefix, nothing_left, cut_left}
use Rattle.wildcards.proofs.component.strip_text.Goals as goal

pub returns-in_err-rest-clause-begins : goal.returns-in_err-rest-clause-begins
returns-in_err-rest-clause-begins c =
    let other = other_prefix c.args.separators c.args.path.now c.args.text.now c.in_err-rest.ensures.cases in
    search rules

pub returns-in_default-clause-begins : goal.returns-in_default-clause-begins
returns-in_default-clause-begins c =
    let h = c.in_ok-rest.ensures.cases in
    nothing_left c.args.separators c.args.path.now c.args.text.now c.in_ok-rest.rest.now h.0 h.1 (nil_from_length _ c.in_default.ensures.cases)

pub returns-then-contains-clause-begins : goal.returns-then-contains-clause-begins
returns-then-contains-clause-begins c =
    let h = c.in_ok-rest.ensures.cases in
    cut_left c.args.separators c.args.path.now c.args.text.now c.in_ok-rest.rest.now h.0 h.1 _ _ c.in-Some.ensures.cases.0 (search rules)
