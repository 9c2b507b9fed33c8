use Rattle.std.proofs.Common.{Some, sym, ◌∙◌, subst}
use Rattle.std.specs.Prelude.{IfErr, ◌≢◌}
use Rattle.std.proofs.lemmas.Result.{IfErr-weaker}
use Rattle.os_ignore.specs.Walks.{files_of_walk}
use Rattle.list_programs.specs.ListRun.{StopsOn, WritesUpTo}
use Rattle.list_programs.specs.declared.fault.ListFault.TheVariants.{Run}
use Rattle.program_frame.specs.Marked.{marked_inner}
use Rattle.program_frame.specs.declared.fault.Failure.TheVariants.{Write}
use Rattle.names_commands.specs.declared.matching.Form.TheVariants.{Name}
use Rattle.names_commands.specs.Matching.{picking, IsPickedBy}
use Rattle.test_command_uses.specs.OneFile.{unended}
use Rattle.test_command_uses.proofs.KnownNames.{never_outside, no_write}
use Rattle.test_command_uses.proofs.filtering.filtered_in_tree.Goals as goal

pub returns : goal.returns
returns g c =
    let P = g.E.Platform in
    let picker = c.args.picker in
    let name = c.args.name.now in
    let Picked = IsPickedBy P picker.names.inverted picker.names.globs picker.names.excluded.now (files_of_walk picker.walk) in
    let rules = picking P Name (unended c.args.max) picker.from_top Picked in
    let stopped = subst (λ b. IfErr c.run.result (λ fault. fault ≢ Run Write → WritesUpTo rules fault (Some b.now) (g.W.Write.contents (marked_inner c.args.writer.now)) (g.W.Write.contents (marked_inner c.run.new.writer)))) c.new-reader.ensures.inner c.run.ensures.stopped in
    IfErr-weaker c.run.result _ _
    (λ fault before number is.
    let s = before (λ e. no_write number _ (sym is ∙ e)) in
    never_outside P picker.from_top Picked c.args.max name s.0 number c.requires.whole c.requires.placed (subst (λ f. StopsOn rules name s.0 f) is s.1.0))
    stopped
