-- Whole walks of an iterator, step by step from an index on: the result of each step, and a further walk from where it ended.
use Rattle.std.specs.Prelude.{◌≡◌, ℕ, true, false, List, [], ◌∷◌, length}
use Rattle.wtf8_core.specs.Chunks.{Chunk}
use Rattle.os_str_ext.specs.declared.symbols.Symbol.{Symbol}
use Rattle.osbytes_c.specs.declared.walks.split.Piece.{Piece}
use Rattle.osbytes_c.specs.declared.walks.chunks.Ends.{Ends}
use Rattle.osbytes_c.specs.declared.walks.symbols.Step.{Step}
use Rattle.osbytes_c.specs.Steps.{part, IsFirstPiece, IsLastPiece, IsChunkAt, IsSymbolAt, Reports}

-- the pieces of s that steps give from index `at` on, until one is the last
abbrev pub SplitWalk : List ℕ → List ℕ → ℕ → List (List ℕ) → Type 0
SplitWalk p s at [] = ⊥
SplitWalk p s at (piece ∷ pieces) =
    (step : Piece) × (IsFirstPiece p s at step × ((piece ≡ part s at step.edge) × elim step.last [
      | true ↦ pieces ≡ []
      | false ↦ SplitWalk p s step.rest pieces
    ]))

-- the same from the end, before index `at`
abbrev pub RSplitWalk : List ℕ → List ℕ → ℕ → List (List ℕ) → Type 0
RSplitWalk p s at [] = ⊥
RSplitWalk p s at (piece ∷ pieces) =
    (step : Piece) × (IsLastPiece p s at step × ((piece ≡ part s step.edge at) × elim step.last [
      | true ↦ pieces ≡ []
      | false ↦ RSplitWalk p s step.rest pieces
    ]))

-- the chunks of s that steps give from index `at` on, up to the end
abbrev pub ChunkWalk : List ℕ → ℕ → List Chunk → Type 0
ChunkWalk s at [] = at ≡ length s
ChunkWalk s at (chunk ∷ chunks) =
    (ends : Ends) × (IsChunkAt s at ends × ((chunk ≡ (part s at ends.part, part s ends.part ends.text)) × ChunkWalk s ends.text chunks))

-- the symbols of s that steps give from index `at` on, up to the end
abbrev pub SymbolWalk : ℕ → List ℕ → ℕ → List Symbol → Type 0
SymbolWalk platform s at [] = at ≡ length s
SymbolWalk platform s at (symbol ∷ symbols) =
    (step : Step) × (IsSymbolAt platform s at step × (Reports symbol step.kind step.value × SymbolWalk platform s step.end symbols))
