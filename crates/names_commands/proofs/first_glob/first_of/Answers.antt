use Rattle.std.proofs.Common.{ap, ◌∙◌}
use Rattle.std.specs.List.{slice_get}
use Rattle.os_str_bytes.specs.Strings.{bytes}
use Rattle.names_commands.proofs.lemmas.FirstGlob.{first_found, none_found}
use Rattle.names_commands.proofs.first_glob.first_of.Goals as goal

pub returns-in-Some : goal.returns-in-Some
returns-in-Some g c =
    first_found g.E.Platform c.args.set.now (bytes c.args.name) c.in-Some.index.now c.matches.new.found.items (c.in-Some.ensures.value ∙ ap (λ found. slice_get found 0) c.deref.ensures.value) c.in_ok-matches.ensures.value

pub returns : goal.returns
returns g c =
    none_found g.E.Platform c.args.set.now (bytes c.args.name) c.matches.new.found.items (c.in-None.ensures.value ∙ ap (λ found. slice_get found 0) c.deref.ensures.value) c.in_ok-matches.ensures.value
