use Rattle.std.proofs.lemmas.Result.{on_ok_weaker}
use Rattle.program_frame.specs.Strings.{strings}
use Rattle.program_frame.specs.declared.os.Os.TheVariants.{Unix}
use Rattle.test_command_uses.proofs.KnownNames.{known_words}
use Rattle.test_command_uses.proofs.joining.words_of_line.Goals as goal

pub returns : goal.returns
returns g c =
    on_ok_weaker c.run_over.result
    (λ written. (written.0, (known_words (strings Unix) c.args.max c.args.line.now written.0 c.requires.whole c.requires.some written.1.0, written.1.1)))
    c.run_over.ensures.written
