-- An argument of a command line that is written into a buffer, unit by unit. Only private contracts name these.
use Rattle.std.specs.Prelude.{ℕ, ◌+◌, ◌*◌, ◌≤◌, Bool, List, [], length}
use Rattle.platform_str.specs.BufferSink.{Pushes}
use Rattle.os_command_line.specs.WindowsWriting.{IsAddedFor, IsWritten}

-- what is added for a unit is appended
pub record PushesUnit (inside : Bool) (run unit : ℕ) (old : List ℕ) (count : ℕ) (new : List ℕ) (len next : ℕ) : Type 0 where
  pub added : List ℕ
  pub pushes : Pushes added old count new len
  pub is : IsAddedFor inside run unit added next
  pub few : len + next ≤ count + (run + 2)

-- what means these units is appended
pub record PushesUnits (inside : Bool) (taken old : List ℕ) (count : ℕ) (new : List ℕ) (len run : ℕ) : Type 0 where
  pub added : List ℕ
  pub pushes : Pushes added old count new len
  pub is : IsWritten inside [] added run taken
  pub few : len + run ≤ count + 2 * length taken
