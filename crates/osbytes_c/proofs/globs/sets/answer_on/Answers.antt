use Rattle.std.proofs.Common.{refl, sym, subst}
use mathlib.Core.Logic.{inl, inr}
use Rattle.osbytes_c.specs.Globs.{IsMatched}
use Rattle.osbytes_c.proofs.lemmas.GlobSets.{not_both}
use Rattle.osbytes_c.proofs.globs.sets.answer_on.Goals as goal

pub returns-then-is_match : goal.returns-then-is_match
returns-then-is_match g c =
    let set = c.args.set.now.set in
    let Is = IsMatched g.E.Platform.units set.options set.patterns.items in
    inl (refl, (c.in-Ok.ensures.cases, subst Is c.in-Ok.ensures.bytes (c.if-is_match.ensures.value.0 refl)))

pub returns-else-is_match : goal.returns-else-is_match
returns-else-is_match g c =
    let set = c.args.set.now.set in
    let Is = IsMatched g.E.Platform.units set.options set.patterns.items in
    inr (inl (refl, (c.in-Ok.ensures.cases, λ m. not_both (c.if-is_match.ensures.value.1 (subst Is (sym c.in-Ok.ensures.bytes) m)))))
