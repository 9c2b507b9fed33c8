-- The chunks that an array is filled with.
use Rattle.std.specs.Prelude.{◌≡◌, ◌↔◌, ℕ, Bool, true, false, List, length}
use Rattle.wtf8_core.specs.Chunks.{Chunk}
use Rattle.osbytes_c.specs.declared.walks.chunks.Ends.{Ends}
use Rattle.osbytes_c.specs.declared.walks.chunks_fill.ChunkView.{ChunkView}
use Rattle.osbytes_c.specs.Fills.{GiveInOrder, IsView, viewed}
use Rattle.osbytes_c.specs.Steps.{IsChunkAt}

-- the chunk from an index on, of a string that begins at this address
pub record ShowsChunk (address at : ℕ) (ends : Ends) (view : ChunkView) : Type 0 where
  pub part : IsView address at ends.part view.part
  pub text : IsView address ends.part ends.text view.text

-- from index `at` on s has these chunks, and then those from index `rest` on, unless that is its end
abbrev pub ChunkViews : List ℕ → ℕ → ℕ → List ChunkView → Bool → ℕ → Type 0
ChunkViews s address at items ended rest =
    GiveInOrder (IsChunkAt s) (ShowsChunk address) (λ ends. ends.text) (λ ends. false) at items false rest × ((ended ≡ true) ↔ (rest ≡ length s))

-- the chunk of a string that begins at this address which has these views
abbrev pub viewed_chunk : ℕ → List ℕ → ChunkView → Chunk
viewed_chunk address s view = (viewed address s view.part, viewed address s view.text)
