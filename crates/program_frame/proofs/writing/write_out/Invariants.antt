use Rattle.std.proofs.Common.{◌≡◌, ◌-◌, ◌≤◌, false, take, length}
use Rattle.std.specs.Io.KnownBytes.{Appends}
use Rattle.program_frame.specs.Marked.{marked_inner, has_failed}
use Rattle.program_frame.proofs.writing.write_out.Given as goal

abbrev pub invariant-loop-written : goal.invariant-loop-written
invariant-loop-written g l = record {
  within : l.written ≤ length l.output;
  written : Appends (g.W.Write.contents (marked_inner l.fn.writer)) (g.W.Write.contents (marked_inner l.writer)) (take l.written l.output);
  unmarked : has_failed l.writer ≡ false;
}

abbrev pub decreases-loop-written : goal.decreases-loop-written
decreases-loop-written g l = length l.output - l.written
