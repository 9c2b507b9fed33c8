use Rattle.std.proofs.Common.{◌≤◌, ◌-◌, List, false, length}
use Rattle.osbytes_c.specs.declared.walks.chunks_fill.ChunkView.{ChunkView}
use Rattle.osbytes_c.specs.ChunkFills.{ShowsChunk}
use Rattle.osbytes_c.specs.Fills.{GiveInOrder, IsFilled}
use Rattle.osbytes_c.specs.Steps.{IsChunkAt}
use Rattle.osbytes_c.proofs.walks.chunks_fill.fill_chunks.Given as goal

-- the chunks so far, and from where the others are
abbrev pub invariant-loop-count : goal.invariant-loop-count
invariant-loop-count l =
    (items : List ChunkView) × (GiveInOrder (IsChunkAt l.bytes) (ShowsChunk l.address) (λ ends. ends.text) (λ ends. false) l.at items false l.next
    × (IsFilled items l.fn.out l.out l.count × (l.next ≤ length l.bytes)))

abbrev pub decreases-loop-count : goal.decreases-loop-count
decreases-loop-count l = length l.initial.out - l.count
