use Rattle.std.proofs.Common.{length, ap, arith}
use Rattle.bench_exports.proofs.lemmas.FewChunks.{few_chunks}
use Rattle.bench_exports.proofs.chunks.port_chunks.Goals as goal

pub overflow_add-count : goal.overflow_add-count
overflow_add-count c =
    let few = few_chunks c.args.raw.now c.loop.invariant.0 c.loop.invariant.1 in
    let all = c.loop.invariant.2 in
    let some = ap length c.in-Some.ensures.steps in
    omega (arith, c.type_inv.raw)
