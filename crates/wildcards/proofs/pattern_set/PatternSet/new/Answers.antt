use Rattle.std.proofs.Common.{◌<◌, length, subst, arith}
use Rattle.wildcards.specs.Filters.{AreCovered}
use Rattle.wildcards.proofs.lemmas.Covers.{covers_next, covers_all}
use Rattle.wildcards.proofs.pattern_set.PatternSet.new.Goals as goal

pub loop-at-preserved : goal.loop-at-preserved
loop-at-preserved g c =
    let patterns = c.args.patterns.items in
    let below = c.loop-at-test.true in
    let len = c.len.ensures in
    let size = c.args.patterns.ok.0 in
    let at : c.loop-at.at < length patterns = omega (arith, below, len, size) in
    let added = c.in_ok-add_choices.ensures in
    let own = c.deref-in-loop-at.ensures.value in (
      omega (arith, at),
      covers_next c.args.options patterns c.loop-at.filter c.add_choices.new.filter c.loop-at.at c.index.result.now at c.index.ensures added.grows (subst (AreCovered c.args.options c.add_choices.new.filter c.loop-at.at 0) own added.covered) c.loop-at.invariant.1,
    )

pub invariant_of-result : goal.invariant_of-result
invariant_of-result g c =
    let past = c.loop-at-test.false in
    let len = c.len.ensures in
    let size = c.args.patterns.ok.0 in
    record { covered = covers_all c.args.options c.args.patterns.items c.loop-at.filter c.loop-at.at (omega (arith, past, len, size)) c.loop-at.invariant.1 }
