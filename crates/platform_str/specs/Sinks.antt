-- What takes bytes, piece by piece (this project's own words).
use Rattle.std.specs.Prelude.{ℕ, ◌<◌, List, [], ◌∷◌, ◌++◌, Result, MatchResult}
use Rattle.std.specs.Str.{IsUtf8}

-- a sink by its states: the bytes it took from one state to another, the bytes it has room for, and the bytes it rejects, since it takes nothing that begins with them, with the state after that
pub record SinkRules (S : Type 0) : Type 1 where
  pub took : S → List ℕ → S → Type 0
  pub has_room : S → List ℕ → Type 0
  pub rejects : S → List ℕ → S → Type 0
  pub took_nothing : (s : S) → took s [] s
  pub took_both : (s t u : S) (a b : List ℕ) → took s a t → took t b u → took s (a ++ b) u
  pub room_before : (s : S) (a b : List ℕ) → has_room s (a ++ b) → has_room s a
  pub room_after : (s t : S) (a b : List ℕ) → took s a t → has_room s (a ++ b) → has_room t b
  pub rejects_after : (s t u : S) (a b c : List ℕ) → took s a t → rejects t b u → rejects s (a ++ (b ++ c)) u

-- the text was taken from s to t, or else it is rejected, and t is the state after that
abbrev pub Takes : {S A R : Type 0} → SinkRules S → S → List ℕ → Result A R → S → Type 0
Takes sink s text result t = MatchResult result (λ _. sink.took s text t) (λ _. sink.rejects s text t)

-- the pieces that a sink accepts: each text, and what comes before and after an ASCII character of a piece
pub record PieceRules : Type 1 where
  pub accepts : List ℕ → Type 0
  pub text : (piece : List ℕ) → IsUtf8 piece → accepts piece
  pub before : (prefix after : List ℕ) (c : ℕ) → c < 0x80 → accepts (prefix ++ c ∷ after) → accepts prefix
  pub after : (prefix after : List ℕ) (c : ℕ) → c < 0x80 → accepts (prefix ++ c ∷ after) → accepts after

-- any piece is accepted
abbrev pub any_pieces : PieceRules
any_pieces = record { accepts = λ piece. Unit {0}; text = λ piece u. tt; before = λ prefix after c ascii accepted. tt; after = λ prefix after c ascii accepted. tt }
