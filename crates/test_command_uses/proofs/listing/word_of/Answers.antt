use Rattle.std.proofs.Common.{subst}
use Rattle.std.proofs.lemmas.Result.{on_ok_weaker}
use Rattle.std.specs.Io.KnownBytes.{Appends}
use Rattle.program_frame.specs.Marked.{marked_inner}
use Rattle.program_frame.specs.Strings.{strings}
use Rattle.program_frame.specs.declared.os.Os.TheVariants.{Unix}
use Rattle.test_command_uses.proofs.KnownNames.{known_word}
use Rattle.test_command_uses.proofs.listing.word_of.Goals as goal

pub returns : goal.returns
returns g c =
    on_ok_weaker c.run_over.result
    (λ written. subst (λ text. Appends (g.W.Write.contents (marked_inner c.args.writer.now)) (g.W.Write.contents (marked_inner c.run_over.new.writer)) text)
    (known_word (strings Unix) c.args.max c.args.name.now written.0 c.requires.whole c.requires.some written.1.0) written.1.1)
    c.run_over.ensures.written
