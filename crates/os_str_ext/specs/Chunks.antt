-- The chunks of bytes as a function, and where the first one ends. `AreChunks` of wtf8_core defines chunks.
use Rattle.std.specs.Prelude.{ℕ, ◌<◌, ◌≤◌, List, ◌++◌, length, take, drop}
use Rattle.std.specs.{Int.IsInRange, Str.IsUtf8}
use Rattle.wtf8_core.specs.{Character.WholeCharacter, Chunks.Chunk, Covered.IsCovered, Covered.HasNoCharacter}
use Rattle.wtf8_core.proofs.lemmas.chunks.OneList.{some_chunks}

-- the one list of chunks of bytes
abbrev pub chunks_of : List ℕ → List Chunk
chunks_of bytes = (some_chunks bytes).0

-- the chunk is a string without whole characters and a text, not both empty; well_formed says which bytes are a string
pub record IsChunkOf (well_formed : List ℕ → Type 0) (c : Chunk) : Type 0 where
  pub formed : well_formed c.0
  pub uncovered : HasNoCharacter c.0
  pub text : IsUtf8 c.1
  pub some : 0 < length (c.0 ++ c.1)

-- no character's form begins with the byte (RFC 3629, section 4)
abbrev pub BeginsNoCharacter : ℕ → Type 0
BeginsNoCharacter b = (0x80 ≤ b) × ¬ (IsInRange 0xC2 0xF4 b)

-- no whole character starts at any of the first n bytes
pub record IsUncoveredUpTo (s : List ℕ) (n : ℕ) : Type 0 where
  pub within : n ≤ length s
  pub uncovered : (k j : ℕ) → k < n → ¬ (WholeCharacter s k j)

-- the first chunk is the part up to m and then the text up to e: the part ends where a text begins, and the text ends where a part begins
pub record IsFirstChunk (s : List ℕ) (m e : ℕ) : Type 0 where
  pub ordered : m ≤ e
  pub within : e ≤ length s
  pub uncovered : (k : ℕ) → k < m → ¬ (IsCovered s k)
  pub text : IsUtf8 (drop m (take e s))
  pub some : m < length s → m < e
  pub ended : e < length s → ¬ (IsCovered s e)
