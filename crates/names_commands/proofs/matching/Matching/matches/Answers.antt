use Rattle.std.proofs.lemmas.Result.{IfOk-weaker}
use Rattle.os_ignore.specs.Walks.{files_of_walk}
use Rattle.os_str_bytes.specs.Strings.{bytes}
use Rattle.names_commands.specs.Matching.{IsChosenBy}
use Rattle.names_commands.proofs.lemmas.Picked.{selected_shown}
use Rattle.names_commands.proofs.matching.Matching.matches.Goals as goal

pub returns-then-is_chosen-clause-matches : goal.returns-then-is_chosen-clause-matches
returns-then-is_chosen-clause-matches g c =
    let chosen = c.is_chosen.ensures.0 c.if-is_chosen.true in
    IfOk-weaker c.is_shown.result _ _
    (λ shown said. selected_shown (IsChosenBy g.E.Platform c.args.self.now.globs) (files_of_walk c.args.walk.now) (bytes c.args.name) c.as_encoded_bytes.result.now shown c.as_encoded_bytes.ensures.value chosen said)
    c.is_shown.ensures.shown
