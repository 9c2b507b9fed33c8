use Rattle.std.proofs.Common.{rules, ◌≡◌, ◌∷◌, length, string_bytes}
use Rattle.std.specs.Prelude.{codes}
use Rattle.paths_commands.proofs.lemmas.Found.{first_end}
use Rattle.paths_commands.proofs.program.after_end.Goals as goal

pub returns-then-eq : goal.returns-then-eq
returns-then-eq c =
    let whole : c.loop-word.left.now ≡ c.in-Some.word.now ∷ c.in-Some.rest.now = search rules in
    let is : string_bytes c.in-Some.word.now ≡ codes "--" = search rules in
    c.loop-word.invariant (length c.in-Some.rest.now) (first_end string_bytes c.loop-word.left.now c.in-Some.rest.now c.in-Some.word.now whole is)
