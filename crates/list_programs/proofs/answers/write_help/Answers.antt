use Rattle.std.proofs.Common.{refl, subst}
use Rattle.std.specs.Io.KnownBytes.{Appends}
use Rattle.program_frame.specs.Marked.{marked_inner}
use Rattle.program_frame.specs.Written.{AppendsBeginning}
use Rattle.list_programs.proofs.lemmas.Runs.{no_err}
use Rattle.list_programs.proofs.answers.write_help.Goals as goal

pub returns-in-Ok-clause-help : goal.returns-in-Ok-clause-help
returns-in-Ok-clause-help g c =
    let old = g.W.Write.contents (marked_inner c.args.writer.now) in
    let new = g.W.Write.contents (marked_inner c.write_out.new.writer) in record {
      written = subst (Appends old new) c.as_bytes.ensures.value c.in-Ok.ensures.written;
      fault = tt;
      beginning = λ e. absurd (no_err e);
    }

pub returns-in-Err-clause-help : goal.returns-in-Err-clause-help
returns-in-Err-clause-help g c =
    let old = g.W.Write.contents (marked_inner c.args.writer.now) in
    let new = g.W.Write.contents (marked_inner c.write_out.new.writer) in record {
      written = tt;
      fault = refl;
      beginning = λ e. subst (AppendsBeginning old new) c.as_bytes.ensures.value c.in-Err.ensures.beginning;
    }
