-- A string as an alternation of parts, in which there is no whole character, and texts (this project's own words; std's `[u8]::utf8_chunks` cuts at other indices).
use Rattle.std.specs.Prelude.{◌≡◌, ℕ, ◌+◌, ◌<◌, ◌≤◌, List, [], ◌∷◌, ◌++◌, length}
use Rattle.wtf8_core.specs.Covered.{IsCovered}

-- a part, and the text after it
abbrev pub Chunk : Type 0
Chunk = List ℕ × List ℕ

-- the bytes of the chunks, one after the other
abbrev pub joined : List Chunk → List ℕ
joined [] = []
joined (c ∷ after) = c.0 ++ (c.1 ++ joined after)

-- c is the chunk of s from index i on, between these other chunks
pub record IsChunkBetween (s : List ℕ) (i : ℕ) (before : List Chunk) (c : Chunk) (after : List Chunk) : Type 0 where
  pub some : 0 < length (c.0 ++ c.1)
  pub uncovered : (k : ℕ) → i ≤ k → k < i + length c.0 → ¬ (IsCovered s k)
  pub covered : (k : ℕ) → i + length c.0 ≤ k → k < i + length (c.0 ++ c.1) → IsCovered s k
  pub part_first : c.0 ≡ [] → before ≡ []
  pub text_last : c.1 ≡ [] → after ≡ []

-- the chunks of s: joined they are s, and each is a part in which no byte is in a whole character, followed by a text. Only in the first may the part be empty, and only in the last the text.
pub record AreChunks (s : List ℕ) (cs : List Chunk) : Type 0 where
  pub joins : joined cs ≡ s
  pub each : (before after : List Chunk) (c : Chunk) → cs ≡ before ++ c ∷ after → IsChunkBetween s (length (joined before)) before c after
