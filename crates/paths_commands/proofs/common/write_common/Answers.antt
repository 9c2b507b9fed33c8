use Rattle.std.proofs.Common.{rules, ◌≡◌, ◌⊎◌, map, Err}
use Rattle.path_building.specs.CommonBase.{bytes_of}
use Rattle.list_programs.specs.declared.fault.ListFault.TheVariants.{Run}
use Rattle.list_programs.specs.declared.program_fault.Fault.TheVariants.{List as OfList, Words}
use Rattle.program_frame.specs.Marked.{marked_inner}
use Rattle.program_frame.specs.declared.fault.Failure.TheVariants.{Memory}
use Rattle.paths_commands.specs.Common.{IsUncommon}
use Rattle.paths_commands.specs.Program.{AreListed}
use Rattle.paths_commands.specs.Styles.{style_of}
use Rattle.paths_commands.specs.declared.fault.CommandFault.{CommandFault}
use Rattle.paths_commands.proofs.lemmas.Commons.{refused}
use Rattle.paths_commands.proofs.common.write_common.Goals as goal

pub returns-in_err-push_common-clause-run : goal.returns-in_err-push_common-clause-run
returns-in_err-push_common-clause-run g c =
    let paths = map bytes_of c.deref.result.now in
    let fault = c.in_err-push_common.field-0.0 in
    let answer = c.from_residual-in_err-push_common.result in
    let is : answer ≡ Err fault = search rules in
    let listed : AreListed c.args.held.now paths = search rules in
    let why : (fault ≡ OfList (Run Memory)) ⊎ ((why : CommandFault) × ((fault ≡ Words why) × IsUncommon (style_of c.args.os) c.args.end paths why)) = search rules in
    refused (style_of c.args.os) c.args.end c.args.held.now paths c.args.ran answer (g.W.Write.contents (marked_inner c.args.writer.now)) fault is listed why
