use Rattle.std.proofs.Common.{length, ap, arith}
use Rattle.bench_exports.proofs.lemmas.FewPieces.{few_of_rsplit}
use Rattle.bench_exports.proofs.pieces.port_rsplit.Goals as goal

pub overflow_add-count : goal.overflow_add-count
overflow_add-count c =
    let few = few_of_rsplit c.args.pattern.now c.args.raw.now c.loop.invariant.0 c.requires.some c.loop.invariant.1 in
    let all = c.loop.invariant.2 in
    let some = ap length c.in-Some.ensures.steps in
    omega (arith, c.type_inv.raw)
