use Rattle.std.proofs.Common.{◌+◌, ◌-◌, false, [], ◌∷◌, ◌++◌, refl}
use Rattle.osbytes_c.specs.declared.walks.chunks_fill.ChunkView.{ChunkView}
use Rattle.osbytes_c.specs.ChunkFills.{ShowsChunk}
use Rattle.osbytes_c.specs.Steps.{IsChunkAt}
use Rattle.osbytes_c.proofs.lemmas.Fills.{one_more_filled, one_more_given}
use Rattle.osbytes_c.proofs.walks.chunks_fill.fill_chunks.Goals as goal

pub loop-count-preserved : goal.loop-count-preserved
loop-count-preserved c =
    let s = c.args.bytes.now in
    let address = c.args.address in
    let inv = c.loop-count.invariant in
    let next = c.loop-count.next in
    let ends = c.in-Some.ends in
    let is : IsChunkAt s next ends = c.in-Some.ensures.chunk in
    let view : ChunkView = record { part = record { at = address + next; len = ends.part - next }; text = record { at = address + ends.part; len = ends.text - ends.part } } in (
      inv.0 ++ view ∷ [],
      (
        one_more_given (IsChunkAt s) (ShowsChunk address) (λ ends. ends.text) (λ ends. false) c.args.at inv.0 next ends view inv.1.0 is
            (record { part = record { ordered = is.ordered; at = refl; len = refl }; text = record { ordered = is.text_ordered; at = refl; len = refl } }),
        (one_more_filled inv.0 c.args.out.now c.loop-count.out c.loop-count.count view inv.1.1.0 c.loop-count-test.true, is.within),
      ),
    )
