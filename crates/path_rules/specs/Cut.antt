-- Where parts of a path are cut: at its ends, and beside an ASCII byte, which is a whole character on each platform.
use Rattle.std.specs.Prelude.{◌≡◌, ◌<◌, ℕ, List, [], ◌∷◌, ◌++◌}

-- the path is cut at one of its ends, before an ASCII byte, or after one
pub data IsAsciiCut (before after : List ℕ) : Type 0 where
  at_start : before ≡ [] → IsAsciiCut before after
  at_end : after ≡ [] → IsAsciiCut before after
  before_ascii : (b : ℕ) (rest : List ℕ) → after ≡ b ∷ rest → b < 0x80 → IsAsciiCut before after
  after_ascii : (start : List ℕ) (b : ℕ) → before ≡ start ++ b ∷ [] → b < 0x80 → IsAsciiCut before after
