use Rattle.std.proofs.Common.{true, refl, sym, ap, subst}
use Rattle.std.proofs.Output.{has_written_styled_append, has_written_styled_of_eq}
use Rattle.std.specs.Fmt.{IsDefaultSpec}
use Rattle.osbytes_commands.specs.Fault.{text_of}
use Rattle.osbytes_commands.proofs.fault.FaultDisplay.fmt.Goals as goal

pub returns-in_ok-write_number-in-BadLine-clause-styled : goal.returns-in_ok-write_number-in-BadLine-clause-styled
returns-in_ok-write_number-in-BadLine-clause-styled g c = λ flush ok.
    let head = c.in_ok-write_str-in-BadLine.ensures.styled flush (refl {a = true}) in
    let number = c.in_ok-write_number-in-BadLine.ensures head.flush (refl {a = true}) in
    let end = c.write_str-in-BadLine.ensures.styled number.flush ok in
    has_written_styled_of_eq _ _ _ _ _ (sym (ap text_of c.in-BadLine.is)) (has_written_styled_append _ _ _ _ _ _ head (has_written_styled_append _ _ _ _ _ _ number end))

pub returns-in_ok-write_number-in-BadLine-clause-writes : goal.returns-in_ok-write_number-in-BadLine-clause-writes
returns-in_ok-write_number-in-BadLine-clause-writes g c = λ plain ok.
    let written = returns-in_ok-write_number-in-BadLine-clause-styled g c plain.flush ok in record {
      wrote = written.wrote;
      plain = record {
        bare = subst (λ spec. IsDefaultSpec spec) (sym written.spec) plain.bare;
        flush = written.flush;
      };
    }
