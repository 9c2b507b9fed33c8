-- What the few fields of a checker say of the bytes that were fed so far (this project's own).
use Rattle.std.specs.Prelude.{◌≡◌, ◌≢◌, ◌⊎◌, ℕ, zero, suc, ◌+◌, ◌*◌, ◌%◌, ◌≤◌, Bool, true, false, if◌then◌else◌, List, [], ◌∷◌, ◌++◌, map, Option, Some, None, Result, Ok}
use Rattle.std.specs.List.{All}
use Rattle.wtf8_core.specs.{Byte.IsByte, Byte.is_continuation, Fault.IsFirstFault, Table.state_at, declared.checker.SavedChecker.SavedChecker}
use Rattle.wtf8_core.specs.{Reader.split_within, Reader.items_from, Reader.items_after, declared.fault.EncodingError.EncodingError, declared.table.State.State}
use Rattle.wtf8_core.specs.declared.fault.EncodingError.TheVariants.{Byte, CodePoint, End}
use Rattle.wtf8_core.specs.declared.table.State.TheVariants.{Between, AfterHigh, OneMore, TwoMore, AfterE0, AfterEd, HighThenEd, LastOfHigh, AfterF0, AfterF1, AfterF4, AfterF5, BadLastTwo, BadFourth, Refused, BadThird}

-- the bytes have this first fault
abbrev pub HasFirstFault : List ℕ → EncodingError → Type 0
HasFirstFault bytes fault = (cs : List ℕ) × IsFirstFault bytes cs fault

-- the same, and the fault isn't that the bytes end: so no later byte changes it
pub record IsFaulty (bytes : List ℕ) (fault : EncodingError) : Type 0 where
  pub first : HasFirstFault bytes fault
  pub stays : fault ≢ End

-- the bytes have no first fault, or it is that they end
abbrev pub OnlyEnds : List ℕ → Type 0
OnlyEnds bytes = (fault : EncodingError) → HasFirstFault bytes fault → fault ≡ End

-- whether no sequence is open
abbrev pub is_between : State → Bool
is_between Between = true
is_between AfterHigh = true
is_between s = false

-- open sequences: whether a high surrogate comes directly before, how many continuations were read, how many are missing after the next, and between which numbers the value so far lies
pub record Row : Type 0 where
  pub high : Bool
  pub read : ℕ
  pub later : ℕ
  pub least : ℕ
  pub most : ℕ

abbrev row : Bool → ℕ → ℕ → ℕ → ℕ → Row
row high read later least most = record { high = high; read = read; later = later; least = least; most = most }

-- how many continuations the lead needs
abbrev pub needed : Row → ℕ
needed r = suc (r.read + r.later)

-- two rows with these numbers, without and with a high surrogate directly before, and then the rows rs
abbrev both : ℕ → ℕ → ℕ → ℕ → List Row → List Row
both read later least most rs = row false read later least most ∷ row true read later least most ∷ rs

-- the open sequences that each state means
abbrev pub rows : State → List Row
rows Between = []
rows AfterHigh = []
rows OneMore = both 0 0 2 0x1F (both 1 0 0x20 0x35F (row false 1 0 0x370 0x3FF ∷ row true 1 0 0x380 0x3FF ∷ both 2 0 0x400 0x43FF []))
rows TwoMore = both 0 1 1 0xC (both 0 1 0xE 0xF (both 1 1 0x10 0x10F []))
rows AfterE0 = both 0 1 0 0 []
rows AfterEd = row false 0 1 0xD 0xD ∷ []
rows HighThenEd = row true 0 1 0xD 0xD ∷ []
rows LastOfHigh = both 1 0 0x360 0x36F []
rows AfterF0 = both 0 2 0 0 []
rows AfterF1 = both 0 2 1 3 []
rows AfterF4 = both 0 2 4 4 []
rows AfterF5 = both 0 2 5 0xF []
rows BadLastTwo = both 1 1 0 0xF (both 1 1 0x110 0x3FF [])
rows BadFourth = both 2 0 0 0x3FF (both 2 0 0x4400 0xFFFF [])
rows Refused = []
rows BadThird = both 1 0 0 0x1F (row true 1 0 0x370 0x37F ∷ [])

-- P holds of some row
abbrev pub SomeRow : (Row → Type 0) → List Row → Type 0
SomeRow P [] = ⊥
SomeRow P (r ∷ rs) = P r ⊎ SomeRow P rs

-- the bits that count among those joined so far, after this number of continuations
abbrev pub kept_bits : ℕ → ℕ → ℕ
kept_bits zero bits = bits % 0x10
kept_bits (suc zero) bits = bits % 0x400
kept_bits (suc (suc zero)) bits = bits % 0x1_0000
kept_bits (suc (suc (suc n))) bits = bits % 0x40_0000

-- the low 26 of the bits, followed by the low six bits of a byte
abbrev pub joined_bits : ℕ → ℕ → ℕ
joined_bits bits byte = bits % 0x400_0000 * 0x40 + byte % 0x40

-- whatever comes after the bytes, the reader gives code points for them, and then these items for what comes
pub record Gives (bytes : List ℕ) (after : List ℕ → List (Result ℕ EncodingError)) : Type 0 where
  pub are_bytes : All IsByte bytes
  pub code_points : List ℕ
  pub items : (more : List ℕ) → items_after false (bytes ++ more) ≡ map Ok code_points ++ after more

-- the bytes end within a sequence of this row, and the reader has this value of it so far
pub record IsOpen (bits : ℕ) (bytes : List ℕ) (r : Row) : Type 0 where
  pub value : ℕ
  pub given : Gives bytes (λ more. items_from (split_within r.high (needed r) (suc r.later) value more))
  pub least_is : r.least ≤ value
  pub most_is : value ≤ r.most
  pub bits_are : 2 ≤ needed r → kept_bits r.read bits ≡ value

-- after the bytes the reader is where this state says, with these bits
abbrev pub IsInState : State → ℕ → List ℕ → Type 0
IsInState Between bits bytes = Gives bytes (items_after false)
IsInState AfterHigh bits bytes = Gives bytes (items_after true)
IsInState s bits bytes = SomeRow (IsOpen bits bytes) (rows s)

-- the fault of a continuation that is rejected in this state
abbrev pub value_fault : State → ℕ → ℕ → EncodingError
value_fault BadThird bits byte = CodePoint (bits % 0x1_0000)
value_fault BadFourth bits byte = CodePoint (bits % 0x40_0000)
value_fault s bits byte = Byte byte

-- the fault of a byte that is rejected in this state
abbrev pub fault_at : State → ℕ → ℕ → EncodingError
fault_at state bits byte = if is_continuation byte then value_fault state bits byte else Byte byte

-- the fields of a checker: it is still reading, or it has met a fault
pub data Progress : Type 0 where
  Reading : State → ℕ → Progress
  Faulted : EncodingError → Progress

abbrev pub progress : State → ℕ → Option EncodingError → Progress
progress state bits None = Reading state bits
progress state bits (Some fault) = Faulted fault

-- the checker's fields describe these bytes, which are all that were fed
abbrev pub Describes : Progress → List ℕ → Type 0
Describes (Reading state bits) bytes = IsInState state bits bytes
Describes (Faulted fault) bytes = IsFaulty bytes fault

-- the fields of the checker that was saved as these numbers
abbrev pub saved_progress : SavedChecker → Progress
saved_progress saved = progress (state_at saved.state) saved.bits saved.fault
