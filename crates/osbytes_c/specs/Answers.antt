-- What the exports return.
use Rattle.std.specs.Prelude.{◌≡◌, ◌⊎◌, ◌≤◌, ◌<◌, ℕ, List, [], ◌∷◌, length}
use Rattle.std.specs.declared.cmp.Ordering.{Ordering}
use Rattle.std.specs.declared.cmp.Ordering.TheVariants.{Less, Equal, Greater}
use Rattle.wtf8_core.specs.Truncated.{IsTruncated}
use Rattle.osbytes_c.specs.Statuses.{done, no_room}

-- a wanted list is written into the buffer, truncated to the buffer's length, and the number is the list's length
abbrev pub Writes : (List ℕ → Type 0) → List ℕ → List ℕ → ℕ → Type 0
Writes Wanted old new count = (list : List ℕ) × (Wanted list × IsTruncated list old new count)

-- it was done whole, or as far as there is room: `count` is how much room is wanted
abbrev pub IsDone : ℕ → Type 0 → ℕ → ℕ → Type 0
IsDone status Done room count = (status ≡ done → Done × (count ≤ room)) × (status ≡ no_room → Done × (room < count))

-- a wanted list is written into the buffer, whole or as much of it as there is room for
abbrev pub IsWritten : ℕ → (List ℕ → Type 0) → List ℕ → List ℕ → ℕ → Type 0
IsWritten status Wanted old new count = IsDone status (Writes Wanted old new count) (length old) count

-- the status is one of these
abbrev pub IsOneOf : List ℕ → ℕ → Type 0
IsOneOf [] status = ⊥
IsOneOf (one ∷ []) status = status ≡ one
IsOneOf (one ∷ other ∷ others) status = (status ≡ one) ⊎ IsOneOf (other ∷ others) status

-- the number of an order
abbrev pub order_number : Ordering → ℕ
order_number Less = 1
order_number Equal = 0
order_number Greater = 2
