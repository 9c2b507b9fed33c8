use Rattle.std.proofs.Common.{rules, ◌≡◌, ◌∙◌, sym}
use Rattle.std.specs.Char.{to_ascii_lowercase}
use Rattle.wildcards.proofs.lemmas.Small.{one_range}
use Rattle.wildcards.proofs.range.one_small.Goals as goal

pub loop-range-preserved-else-small_letter-small : goal.loop-range-preserved-else-small_letter-small
loop-range-preserved-else-small_letter-small c =
    let r = c.in-Some.range.now in
    let small = c.small_letter-small.result in
    let one : r.first ≡ r.last = search rules in
    let own : to_ascii_lowercase r.first ≡ small = search rules in
    one_range c.args.ranges.now c.loop-range.left.now c.in-Some.rest.now r small c.in-Some.ensures.cases.0 one own c.loop-range.invariant
