-- The runs of surrogates in a list of code points, each with the scalar values after it (WTF-8: lone surrogates).
use Rattle.std.specs.Prelude.{◌≡◌, ℕ, ◌<◌, List, [], ◌∷◌, ◌++◌, length}
use Rattle.std.specs.{Char.IsScalar, List.flat_map, List.AllByRecursion}
use Rattle.wtf8_core.specs.{Surrogate.IsSurrogate, CodePoint.encode, Chunks.Chunk, Chunks.joined}

-- a run of surrogates and the scalar values after it, between these others: no two runs are adjacent, so each is maximal
pub record IsRun (before : List Chunk) (c : Chunk) (after : List Chunk) : Type 0 where
  pub some : 0 < length (c.0 ++ c.1)
  pub surrogates : AllByRecursion IsSurrogate c.0
  pub scalars : AllByRecursion IsScalar c.1
  pub run_first : c.0 ≡ [] → before ≡ []
  pub scalars_last : c.1 ≡ [] → after ≡ []

-- the runs of the code points cs
pub record AreRuns (cs : List ℕ) (runs : List Chunk) : Type 0 where
  pub joins : joined runs ≡ cs
  pub each : (before after : List Chunk) (c : Chunk) → runs ≡ before ++ c ∷ after → IsRun before c after

-- the bytes of a run, and those of the scalar values after it
abbrev pub form_chunk : Chunk → Chunk
form_chunk c = (flat_map encode c.0, flat_map encode c.1)
