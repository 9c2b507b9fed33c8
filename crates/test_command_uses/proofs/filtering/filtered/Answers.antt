use Rattle.std.proofs.Common.{Some, subst}
use Rattle.std.specs.Prelude.{OnOk}
use Rattle.std.proofs.lemmas.Result.{on_ok_weaker}
use Rattle.os_ignore.specs.Walks.{files_of_walk}
use Rattle.list_programs.specs.ListRun.{WritesOutput}
use Rattle.program_frame.specs.Marked.{marked_inner}
use Rattle.names_commands.specs.declared.matching.Form.TheVariants.{Name}
use Rattle.names_commands.specs.Matching.{picking, IsPickedBy}
use Rattle.test_command_uses.specs.OneFile.{unended}
use Rattle.test_command_uses.proofs.KnownNames.{known_filtered}
use Rattle.test_command_uses.proofs.filtering.filtered.Goals as goal

pub returns : goal.returns
returns g c =
    let P = g.E.Platform in
    let picker = c.args.picker in
    let name = c.args.name.now in
    let Picked = IsPickedBy P picker.names.inverted picker.names.globs picker.names.excluded.now (files_of_walk picker.walk) in
    let written = subst (λ b. OnOk c.run.result (WritesOutput (picking P Name (unended c.args.max) picker.from_top Picked) (Some b.now) (g.W.Write.contents (marked_inner c.args.writer.now)) (g.W.Write.contents (marked_inner c.run.new.writer)))) c.new-reader.ensures.inner c.run.ensures.written in
    on_ok_weaker c.run.result
    (λ w. (w.0, (known_filtered P picker.from_top Picked c.args.max name w.0 c.requires.whole c.requires.some w.1.0, w.1.1)))
    written
