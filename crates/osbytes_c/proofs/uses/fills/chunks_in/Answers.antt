use Rattle.std.proofs.Common.{List, [], drop, map, refl, sym, subst, append-nil}
use Rattle.wtf8_core.specs.Chunks.{Chunk, AreChunks}
use Rattle.osbytes_c.specs.ChunkFills.{viewed_chunk}
use Rattle.osbytes_c.specs.Fills.{IsLeft}
use Rattle.osbytes_c.proofs.uses.fills.chunks_in.Goals as goal

pub returns-then-filled : goal.returns-then-filled
returns-then-filled c =
    let s = c.args.bytes.now in
    let filled = c.osb_core_chunks_fill.new.filled in
    let fills = c.osb_core_chunks_fill.ensures.chunks c.if-osb_core_chunks_fill-eq-DONE.true in
    let left : List Chunk = [] in
    let none : IsLeft filled.ended left (AreChunks (drop filled.next s) left) = subst (λ e. IsLeft e left (AreChunks (drop filled.next s) left)) (sym c.if-filled.true) refl in
    let all = c.filled_chunks.ensures s 0 0 fills.items filled.ended filled.next left fills.are none in
    subst (λ items. AreChunks s (map (viewed_chunk 0 s) items)) (sym fills.written.prefix) (subst (AreChunks s) (append-nil (map (viewed_chunk 0 s) fills.items)) all)
