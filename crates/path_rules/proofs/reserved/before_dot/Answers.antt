use Rattle.std.proofs.Common.{nat_eq, [], drop, refl, ap}
use Rattle.path_rules.proofs.lemmas.Cuts.{field_at, field_whole}
use Rattle.path_rules.proofs.reserved.before_dot.Goals as goal

pub returns-then-b-eq46 : goal.returns-then-b-eq46
returns-then-b-eq46 c =
    (drop c.loop-i.i c.args.name.now, field_at (λ b. nat_eq b 0x2E) c.args.name.now _ _ c.loop-i.i refl refl c.loop-i-test.true c.loop-i.invariant (ap (λ b. nat_eq b 0x2E) c.if-b-eq46.true))

pub returns : goal.returns
returns c = ([], field_whole (λ b. nat_eq b 0x2E) c.args.name.now [] c.loop-i.i refl c.loop-i-test.false c.loop-i.invariant)
