use Rattle.std.proofs.Common.{sym, subst}
use Rattle.std.specs.Option.{option_map}
use Rattle.list_programs.specs.ListRun.{EndedBy, Runs}
use Rattle.program_frame.specs.Marked.{marked_inner}
use Rattle.list_programs.specs.declared.program_fault.Fault.TheVariants.{List as OfList, Words}
use Rattle.names_commands.specs.Command.{requested_of}
use Rattle.names_commands.specs.Fault.{none_for}
use Rattle.names_commands.specs.Program.{DoesWork}
use Rattle.names_commands.specs.Task.{rules_of}
use Rattle.names_commands.proofs.program.run_on.Goals as goal

pub returns-in-Each-clause-run : goal.returns-in-Each-clause-run
returns-in-Each-clause-run g c =
    let P = g.E.Platform in
    let input = g.R.Read.remaining (marked_inner c.args.reader.now) in
    let left = g.R.Read.remaining (marked_inner c.run_list.new.reader) in
    let old = g.W.Write.contents (marked_inner c.args.writer.now) in
    let new = g.W.Write.contents (marked_inner c.run_list.new.writer) in
    subst (λ work. DoesWork (g.F.Files.known c.args.files.now) g.row.A.Denot P (requested_of c.args.request.now) c.args.os work input left old new c.run_list.result) (sym c.in-Each.is)
    (subst (λ none. EndedBy (option_map Words none) (Runs (rules_of P (record { task = c.in-Each.task; list = c.args.request.now.list })) OfList) input left old new c.run_list.result) c.none_for-none.ensures
    (subst (λ settings. EndedBy (option_map Words c.none_for-none.result) (Runs (rules_of P settings) OfList) input left old new c.run_list.result) c.new-each.ensures c.run_list.ensures.run))

pub returns-in-Picked-clause-run : goal.returns-in-Picked-clause-run
returns-in-Picked-clause-run g c =
    subst (λ work. DoesWork (g.F.Files.known c.args.files.now) g.row.A.Denot g.E.Platform (requested_of c.args.request.now) c.args.os work (g.R.Read.remaining (marked_inner c.args.reader.now)) (g.R.Read.remaining (marked_inner c.run_picked.new.reader)) (g.W.Write.contents (marked_inner c.args.writer.now)) (g.W.Write.contents (marked_inner c.run_picked.new.writer)) c.run_picked.result)
    (sym c.in-Picked.is)
    c.run_picked.ensures.run

pub returns-in-Why-clause-run : goal.returns-in-Why-clause-run
returns-in-Why-clause-run g c =
    subst (λ work. DoesWork (g.F.Files.known c.args.files.now) g.row.A.Denot g.E.Platform (requested_of c.args.request.now) c.args.os work (g.R.Read.remaining (marked_inner c.args.reader.now)) (g.R.Read.remaining (marked_inner c.run_why.new.reader)) (g.W.Write.contents (marked_inner c.args.writer.now)) (g.W.Write.contents (marked_inner c.run_why.new.writer)) c.run_why.result)
    (sym c.in-Why.is)
    c.run_why.ensures.run

pub returns-in-Tar-clause-run : goal.returns-in-Tar-clause-run
returns-in-Tar-clause-run g c =
    subst (λ work. DoesWork (g.F.Files.known c.args.files.now) g.row.A.Denot g.E.Platform (requested_of c.args.request.now) c.args.os work (g.R.Read.remaining (marked_inner c.args.reader.now)) (g.R.Read.remaining (marked_inner c.run_tar.new.reader)) (g.W.Write.contents (marked_inner c.args.writer.now)) (g.W.Write.contents (marked_inner c.run_tar.new.writer)) c.run_tar.result)
    (sym c.in-Tar.is)
    c.run_tar.ensures.run
