-- The table by which bytes are checked, and the order of its states and classes. Only private contracts name these.
use Rattle.std.specs.Prelude.{ℕ, [], slice_index_or}
use denote.Enum.Declared.{tag_of}
use Rattle.wtf8_core.specs.contracts.table.Class.{the_type as the_classes}
use Rattle.wtf8_core.specs.contracts.table.State.{the_type as the_states}
use Rattle.wtf8_core.specs.declared.table.TheConstants.{STATES, CLASSES, NEXT}
use Rattle.wtf8_core.specs.{declared.table.Class.Class, declared.table.Class.TheVariants.Ascii, declared.table.State.State, declared.table.State.TheVariants.Between}

-- the index of a state in the table
abbrev pub state_index : State → ℕ
state_index = tag_of the_states

-- the state with an index in the table
unfoldable pub state_at : ℕ → State
state_at index = slice_index_or STATES index Between

-- the index of a class in a row of the table
abbrev pub class_index : Class → ℕ
class_index = tag_of the_classes

-- the class of a byte
unfoldable pub class_at : ℕ → Class
class_at byte = slice_index_or CLASSES byte Ascii

-- the state after a byte of a class
unfoldable pub next_at : State → Class → State
next_at state class = slice_index_or (slice_index_or NEXT (state_index state) []) (class_index class) Between
