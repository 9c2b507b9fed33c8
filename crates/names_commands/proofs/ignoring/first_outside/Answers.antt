use Rattle.std.proofs.Common.{◌≡◌, ◌+◌, ◌++◌, drop, map, sym, ◌∙◌, subst}
use Rattle.names_commands.specs.Ignoring.{IsPlaced, text_of}
use Rattle.names_commands.proofs.lemmas.Placed.{PassesPlaced, one_passed}
use Rattle.names_commands.proofs.ignoring.first_outside.Goals as goal

pub loop-value-preserved : goal.loop-value-preserved
loop-value-preserved c =
    let all = map text_of c.args.values.now in
    one_passed all (drop (c.loop-value.passed + 1) all) c.in-Some.value.now (subst (PassesPlaced all) c.in-Some.ensures.first c.loop-value.invariant) (subst IsPlaced c.as_bytes.ensures.value (c.is_placed.ensures.0 c.if-not-is_placed.false))

pub returns-then-not-is_placed : goal.returns-then-not-is_placed
returns-then-not-is_placed c =
    let all = map text_of c.args.values.now in
    let passed = c.loop-value.invariant in
    let outside : ¬ (IsPlaced c.in-Some.value.now) = λ placed.
    let yes = c.is_placed.ensures.1 (subst IsPlaced (sym c.as_bytes.ensures.value) placed) in
    let never = sym yes ∙ c.if-not-is_placed.true in cc in
    (passed.before, (drop (c.loop-value.passed + 1) all, (subst (λ left. all ≡ passed.before ++ left) c.in-Some.ensures.first passed.joined, outside)))
