use Rattle.os_ignore.specs.Walks.{files_of_walk}
use Rattle.names_commands.specs.Matching.{matching}
use Rattle.names_commands.proofs.lemmas.Names.{no_items}
use Rattle.names_commands.proofs.matching.PickerListTask.write_item.Goals as goal

pub returns-clause-fault : goal.returns-clause-fault
returns-clause-fault g c =
    let m = c.args.self.now.names in
    no_items g.E.Platform c.args.self.now.from_top (matching g.E.Platform m.form m.list c.args.self.now.from_top m.inverted m.globs m.excluded.now (files_of_walk c.args.self.now.walk)) c.args.item.now (λ why h. h) c.write_matching.result c.write_matching.ensures.fault
