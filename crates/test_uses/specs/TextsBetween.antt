-- The lossy text of chunks: their texts, with U+FFFD in place of the parts.
use Rattle.std.specs.Prelude.{ℕ, ◌<◌, ◌≤◌, List, [], ◌∷◌, ◌++◌, length}
use Rattle.std.specs.List.{repeat}
use Rattle.wtf8_core.specs.Character.{WholeCharacter}
use Rattle.wtf8_core.specs.Chunks.{Chunk}
use Rattle.wtf8_core.specs.Covered.{StartsWithNoCharacter}
use Rattle.wtf8_core.specs.Lossy.{replacement}
use Rattle.platform_str.specs.Laws.{IsReplaced}

-- how many U+FFFD replace a part: at least one and at most one for each byte, none where the part is empty
pub record IsCountOf (part : List ℕ) (count : ℕ) : Type 0 where
  pub some : 0 < length part → 0 < count
  pub most : count ≤ length part

-- the texts of the chunks, one after the other, each after the U+FFFDs that replace its chunk's part
pub data AreTextsBetween : List Chunk → List ℕ → Type 0 where
  none : AreTextsBetween [] []
  chunk : {c : Chunk} {others : List Chunk} {lossy : List ℕ} (count : ℕ) → IsCountOf c.0 count → AreTextsBetween others lossy → AreTextsBetween (c ∷ others) (repeat count replacement ++ (c.1 ++ lossy))

-- where no whole character starts, one U+FFFD replaces some first bytes, and all whole characters are after them
abbrev pub ReplacesNoCharacter : (List ℕ → Type 0) → (List ℕ → List ℕ) → Type 0
ReplacesNoCharacter well_formed lossy = (b : List ℕ) → well_formed b → 0 < length b → StartsWithNoCharacter b → (n : ℕ) × (IsReplaced well_formed lossy b n × ((i : ℕ) → (j : ℕ) → WholeCharacter b i j → n ≤ i))
