use Rattle.std.proofs.Common.{◌≡◌, ◌+◌, List, length}
use Rattle.wtf8_core.specs.Chunks.{Chunk, AreChunks}
use Rattle.bench_exports.proofs.chunks.port_chunks.Given as goal

-- the chunks so far and those left are all
abbrev pub invariant-loop : goal.invariant-loop
invariant-loop l = (all : List Chunk) × AreChunks l.raw all × (l.count + length l.iterator' ≡ length all)
