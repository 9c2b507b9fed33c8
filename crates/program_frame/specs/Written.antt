-- What a writer took of a text.
use Rattle.std.specs.Prelude.{◌≡◌, ℕ, List, take, Option, OnOk, IfErr, Result, Err, ⊤}
use Rattle.std.specs.Io.KnownBytes.{Appends}

-- the contents grew by a beginning of the text
abbrev pub AppendsBeginning : Option (List ℕ) → Option (List ℕ) → List ℕ → Type 0
AppendsBeginning old new text = (count : ℕ) × Appends old new (take count text)

-- the contents grew by the text, or by a beginning of it before a write failed
pub record WritesText {X : Type 0} (text : List ℕ) (failed : X) (old new : Option (List ℕ)) (answer : Result ⊤ X) : Type 0 where
  pub written : OnOk answer (Appends old new text)
  pub fault : IfErr answer (λ fault. fault ≡ failed)
  pub beginning : answer ≡ Err failed → AppendsBeginning old new text
