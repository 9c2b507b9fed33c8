use Rattle.std.proofs.Common.{◌∙◌, sym, ap}
use Rattle.std.proofs.lemmas.List.{nil_from_length}
use Rattle.wildcards.specs.Components.{separates}
use Rattle.wildcards.proofs.lemmas.Extensions.{one_passed, all_passed, at_dot, at_separator}
use Rattle.wildcards.proofs.component.extension.Goals as goal

pub loop-last-preserved : goal.loop-last-preserved
loop-last-preserved c = one_passed _ _ _ c.loop-last.invariant _ _ c.in-Some.ensures.cases.0 c.if-last-eq46.false (ap (separates c.args.separators) (sym c.from.ensures) ∙ sym c.contains.ensures ∙ c.if-contains.false)

pub returns-then-last-eq46 : goal.returns-then-last-eq46
returns-then-last-eq46 c = at_dot _ _ _ c.loop-last.invariant _ _ c.in-Some.ensures.cases.0 c.if-last-eq46.true _ (c.split_at.ensures.back)

pub returns-then-contains : goal.returns-then-contains
returns-then-contains c = at_separator _ _ _ c.loop-last.invariant _ _ c.in-Some.ensures.cases.0 (ap (separates c.args.separators) (sym c.from.ensures) ∙ sym c.contains.ensures ∙ c.if-contains.true)

pub returns : goal.returns
returns c = all_passed _ _ _ c.loop-last.invariant (nil_from_length _ c.in_default.ensures.cases)
