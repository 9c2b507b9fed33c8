use Rattle.std.proofs.Common.{◌++◌, ◌∷◌, [], subst}
use Rattle.std.proofs.lemmas.Result.{on_ok_weaker}
use Rattle.std.specs.Io.KnownBytes.{Appends}
use Rattle.list_programs.specs.Items.{Lacks}
use Rattle.program_frame.specs.Marked.{marked_inner}
use Rattle.test_command_uses.proofs.paths.from_base.Goals as goal

pub returns : goal.returns
returns g c =
    on_ok_weaker c.answered.result
    (λ answer.
    let is = answer.1.0.1.1 in
    (answer.1.0.0, (answer.1.0.1.0, (subst (Lacks 0) is answer.1.1.0, subst (λ text. Appends (g.W.Write.contents (marked_inner c.args.writer.now)) (g.W.Write.contents (marked_inner c.answered.new.writer)) (text ++ 0 ∷ [])) is answer.1.1.1))))
    c.answered.ensures
