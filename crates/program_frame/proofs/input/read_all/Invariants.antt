use Rattle.std.proofs.Common.{◌≡◌, ◌-◌, ◌^◌, vec_len}
use Rattle.std.specs.Io.KnownBytes.{Consumes}
use Rattle.program_frame.specs.Marked.{marked_inner, has_failed}
use Rattle.program_frame.proofs.input.read_all.Given as goal

abbrev pub invariant-loop-input : goal.invariant-loop-input
invariant-loop-input g l = record {
  consumed : Consumes (g.R.Read.remaining (marked_inner l.fn.reader)) (g.R.Read.remaining (marked_inner l.reader)) l.input.items;
  unchanged : has_failed l.reader ≡ has_failed l.fn.reader;
}

abbrev pub decreases-loop-input : goal.decreases-loop-input
decreases-loop-input g l = 2 ^ 64 - vec_len l.input
