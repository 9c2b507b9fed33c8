use Rattle.std.proofs.Common.{subst}
use Rattle.std.proofs.lemmas.Result.{on_ok_weaker}
use Rattle.std.specs.Io.KnownBytes.{Appends}
use Rattle.list_programs.specs.ListRun.{IsOutput}
use Rattle.program_frame.specs.Marked.{marked_inner}
use Rattle.paths_commands.specs.Task.{rules_of}
use Rattle.test_command_uses.proofs.KnownPaths.{known_answer}
use Rattle.test_command_uses.proofs.paths.answered.Goals as goal

pub returns : goal.returns
returns g c =
    on_ok_weaker c.ask.result
    (λ written.
    let answer = known_answer g.E.Platform g.E.PathStyle.follows c.args.task c.args.end 4096 c.args.path.now written.0 c.requires.question c.requires.taken c.requires.whole c.requires.some (subst (λ l. IsOutput (rules_of g.E.Platform g.E.PathStyle.follows c.args.task l l.end) c.args.path.now written.0) c.lacking.ensures written.1.0) in
    (answer.0, (answer.1.0, (answer.1.1.0, subst (λ text. Appends (g.W.Write.contents (marked_inner c.args.writer.now)) (g.W.Write.contents (marked_inner c.ask.new.writer)) text) answer.1.1.1 written.1.1))))
    c.ask.ensures.written
