use Rattle.std.proofs.Common.{◌≡◌, ◌-◌, suc, arith, rules}
use Rattle.wildcards.proofs.lemmas.Visited.{first_taken}
use Rattle.wildcards.proofs.candidates.Query.comes_before.Goals as goal

pub returns-then-slot : goal.returns-then-slot
returns-then-slot g c e =
    let left = c.loop-left.left in
    let some = c.loop-left-test.true in
    let less : left ≡ suc (left - 1) = omega (arith, some) in
    (c.in-Some.key.now, (c.loop-left.invariant c.in-Some.key.now (first_taken left (left - 1) _ _ c.in-Some.key.now c.in-Some.ensures less).0, search rules))

pub loop-left-preserved : goal.loop-left-preserved
loop-left-preserved g c key h =
    let left = c.loop-left.left in
    let some = c.loop-left-test.true in
    let less : left ≡ suc (left - 1) = omega (arith, some) in
    c.loop-left.invariant key ((first_taken left (left - 1) _ _ c.in-Some.key.now c.in-Some.ensures less).1 key h)
