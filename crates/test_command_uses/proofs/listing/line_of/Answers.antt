use Rattle.std.proofs.Common.{subst}
use Rattle.std.proofs.lemmas.Result.{on_ok_weaker}
use Rattle.std.specs.Io.KnownBytes.{Appends}
use Rattle.program_frame.specs.Marked.{marked_inner}
use Rattle.test_command_uses.proofs.KnownNames.{known_line}
use Rattle.test_command_uses.proofs.listing.line_of.Goals as goal

pub returns-clause-line : goal.returns-clause-line
returns-clause-line g c =
    on_ok_weaker c.run_over.result
    (λ written.
    let line = (known_line g.E.Platform c.args.max c.args.name.now written.0 c.requires.whole c.requires.some written.1.0).0 in
    (line.0, (line.1.0, subst (λ text. Appends (g.W.Write.contents (marked_inner c.args.writer.now)) (g.W.Write.contents (marked_inner c.run_over.new.writer)) text) line.1.1 written.1.1)))
    c.run_over.ensures.written

pub returns-clause-short : goal.returns-clause-short
returns-clause-short g c =
    on_ok_weaker c.run_over.result
    (λ written. (known_line g.E.Platform c.args.max c.args.name.now written.0 c.requires.whole c.requires.some written.1.0).1)
    c.run_over.ensures.written
