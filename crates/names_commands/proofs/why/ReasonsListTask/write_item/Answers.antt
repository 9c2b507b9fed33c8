use Rattle.std.proofs.Common.{map, string_bytes}
use Rattle.os_ignore.specs.Ignores.{files_of}
use Rattle.names_commands.specs.FirstGlob.{IsFirstBy}
use Rattle.names_commands.specs.Ignoring.{needs_tree, text_of}
use Rattle.names_commands.specs.Why.{deciding, sources}
use Rattle.names_commands.proofs.lemmas.Names.{no_items}
use Rattle.names_commands.proofs.why.ReasonsListTask.write_item.Goals as goal

pub returns-clause-fault : goal.returns-clause-fault
returns-clause-fault g c =
    let r = c.args.self.now in
    let values = map text_of r.values.now in
    let from = sources values r.globs.plain (map string_bytes r.globs.texts.now) in
    no_items g.E.Platform (needs_tree values) (deciding g.E.Platform (IsFirstBy g.E.Platform r.globs.set) r.list from (files_of r.ignore)) c.args.item.now (λ why h. h) c.write_decided.result c.write_decided.ensures.fault
