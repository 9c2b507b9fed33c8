-- Escapes that are taken part by part. Only private contracts name these.
use Rattle.std.specs.Prelude.{◌≡◌, ℕ, nat_eq, Bool, if◌then◌else◌, List, ◌++◌, map, Result, MatchResult}
use Rattle.std.specs.Str.{chars}
use Rattle.platform_str.specs.Sinks.{SinkRules}
use Rattle.os_quote.specs.Item.{Item, Backslash, backslash, item_texts, hidden_item, character_item}

-- a beginning of the text was taken, and the rest is left; or else it is rejected, and t is the state after that
abbrev pub TakesBeginning : {S A R : Type 0} → SinkRules S → S → List ℕ → (A → List ℕ) → Result A R → S → Type 0
TakesBeginning sink s text left result t = MatchResult result (λ rest. (taken : List ℕ) × sink.took s taken t × (text ≡ taken ++ left rest)) (λ _. sink.rejects s text t)

-- the token of a character that isn't shown, or is the backslash
abbrev pub token_of : ℕ → Item
token_of c = if nat_eq c backslash then Backslash else hidden_item c

-- the escape of a text in the form that shows these characters
abbrev pub text_escape : (ℕ → Bool) → List ℕ → List ℕ
text_escape shows text = item_texts (map (character_item shows) (chars text))
