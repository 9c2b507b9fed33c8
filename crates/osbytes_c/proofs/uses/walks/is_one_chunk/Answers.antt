use Rattle.std.proofs.Common.{◌≡◌, [], ◌∷◌, length, refl, arith}
use Rattle.std.proofs.lemmas.Bool.Decides.{nat_tests}
use Rattle.wtf8_core.specs.Chunks.{Chunk}
use Rattle.osbytes_c.specs.Steps.{part}
use Rattle.osbytes_c.proofs.uses.walks.is_one_chunk.Goals as goal

pub returns-then-osb_core_chunk-eq-DONE : goal.returns-then-osb_core_chunk-eq-DONE
returns-then-osb_core_chunk-eq-DONE c = λ is.
    let s = c.args.bytes.now in
    let ends = c.osb_core_chunk.new.ends in
    let step = c.osb_core_chunk.ensures.chunk c.if-osb_core_chunk-eq-DONE.true in
    let whole : ends.text ≡ length s = grind (arith, nat_tests, is) in
    let chunk : Chunk = (part s 0 ends.part, part s ends.part ends.text) in
    (chunk, c.chunk_walks.ensures s (chunk ∷ []) (ends, (step, (refl, whole))))
