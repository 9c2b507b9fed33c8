-- Chunks in an array, one after the other.
use Rattle.std.proofs.Common.{◌≡◌, ℕ, Bool, true, false, ◌↔◌, List, [], ◌∷◌, ◌++◌, length, map, drop, refl, sym, ap, ◌∙◌, subst}
use Rattle.wtf8_core.specs.Chunks.{Chunk, AreChunks}
use Rattle.wtf8_core.proofs.lemmas.chunks.OneList.{chunks_once}
use Rattle.osbytes_c.specs.declared.walks.chunks_fill.ChunkView.{ChunkView}
use Rattle.osbytes_c.specs.ChunkFills.{ShowsChunk, viewed_chunk}
use Rattle.osbytes_c.specs.Fills.{GiveInOrder, IsLeft, viewed}
use Rattle.osbytes_c.specs.Steps.{part, IsChunkAt}
use Rattle.osbytes_c.proofs.lemmas.Fills.{viewed_is}
use Rattle.osbytes_c.proofs.lemmas.Walks.{chunk_walk}

-- the chunks in an array, and those that are left
pub chunks_filled : (s : List ℕ) (address at : ℕ) (items : List ChunkView) (rest : ℕ)
    → GiveInOrder (IsChunkAt s) (ShowsChunk address) (λ ends. ends.text) (λ ends. false) at items false rest
    → (left : List Chunk) → AreChunks (drop rest s) left → AreChunks (drop at s) (map (viewed_chunk address s) items ++ left)
chunks_filled s address at [] rest g left are = subst (λ i. AreChunks (drop i s) left) g.1 are
chunks_filled s address at (item ∷ items) rest g left are =
    let ends = g.0 in
    let is = g.1.0 in
    let shows = g.1.1.0 in
    let later = chunks_filled s address ends.text items rest g.1.1.1 left are in
    let same = chunks_once (drop ends.text s) is.after (map (viewed_chunk address s) items ++ left) is.rest later in
    let first : viewed_chunk address s item ≡ (part s at ends.part, part s ends.part ends.text) =
    ap (λ x. (x, viewed address s item.text)) (viewed_is address at ends.part s item.part shows.part) ∙ ap (λ x. (part s at ends.part, x)) (viewed_is address ends.part ends.text s item.text shows.text) in
    subst (λ x. AreChunks (drop at s) (x ∷ map (viewed_chunk address s) items ++ left)) (sym first) (subst (λ xs. AreChunks (drop at s) ((part s at ends.part, part s ends.part ends.text) ∷ xs)) same is.all)

-- no chunks are left at the end
pub chunks_left : (s : List ℕ) (ended : Bool) (rest : ℕ) (left : List Chunk) → ((ended ≡ true) ↔ (rest ≡ length s))
    → IsLeft ended left (AreChunks (drop rest s) left) → AreChunks (drop rest s) left
chunks_left s true rest left end are = subst (AreChunks (drop rest s)) (sym are) (chunk_walk s rest [] (end.0 refl))
chunks_left s false rest left end are = are
