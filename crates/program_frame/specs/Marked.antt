-- A reader or a writer with a mark that one of its calls failed.
use Rattle.std.specs.Prelude.{◌≡◌, ℕ, List, Bool, true, ◌==◌, not, ◌&&◌, length, Result, Ok, Err}
use Rattle.std.specs.declared.io.Error.{Error}
use Rattle.std.specs.IoError.{error_kind}
use Rattle.std.specs.declared.io.ErrorKind.TheVariants.{BrokenPipe}
use Rattle.program_frame.specs.declared.marked.Marked.{Marked}

-- the reader or the writer itself
abbrev pub marked_inner : {T : Type 0} → Marked T → T
marked_inner marked = marked.inner

-- the mark
abbrev pub has_failed : {T : Type 0} → Marked T → Bool
has_failed marked = marked.failed

-- the mark, where the call that failed found that nobody reads any more what is written
abbrev pub is_closed : {T : Type 0} → Marked T → Bool
is_closed marked = marked.failed && marked.closed

-- a call failed since nobody reads any more what is written
abbrev pub IsBrokenPipe : {T : Type 0} → Result T Error → Type 0
IsBrokenPipe (Ok value) = ⊥
IsBrokenPipe (Err error) = error_kind error ≡ BrokenPipe

-- whether a write of these bytes returned an error, or took none of them although there were some
abbrev pub failed_write : {E : Type 0} → Result ℕ E → List ℕ → Bool
failed_write (Ok count) bytes = (count == 0) && not (length bytes == 0)
failed_write (Err error) bytes = true
