use Rattle.std.proofs.Common.{◌≡◌, ℕ, List, Option, sym, subst}
use Rattle.std.specs.Prelude.{Result, ⊤}
use Rattle.program_frame.specs.Files.{KnownFiles}
use Rattle.program_frame.specs.Marked.{marked_inner}
use Rattle.program_frame.specs.Strings.{strings}
use Rattle.program_frame.specs.declared.os.Os.{Os}
use Rattle.program_frame.specs.declared.os.Os.TheVariants.{Unix, Windows, Wasm}
use Rattle.names_commands.specs.Command.{Requested, requested_of}
use Rattle.names_commands.specs.Program.{Does, DoesCommand, DoesWork, Fault}
use Rattle.names_commands.specs.declared.command.Command.TheVariants.{On}
use Rattle.names_commands.specs.declared.command.Work.{Work}
use Rattle.names_commands.proofs.program.run_request.Goals as goal

-- a command does its work on its platform
works : (known : KnownFiles) (A : Type 0) (requested : Requested) (os other : Os) (work : Work) (input left old new : Option (List ℕ)) (answer : Result ⊤ Fault) → requested.command ≡ On os work → os ≡ other
    → DoesWork known A (strings other) requested os work input left old new answer → Does known A requested input left old new answer
works known A requested os other work input left old new answer its is ran =
    subst (λ command. DoesCommand known A requested command input left old new answer) (sym its)
    (subst (λ z. DoesWork known A (strings z) requested os work input left old new answer) (sym is) ran)

pub returns-in-Unix-clause-run : goal.returns-in-Unix-clause-run
returns-in-Unix-clause-run g c =
    works (g.F.Files.known c.args.files.now) g.row.A.Denot (requested_of c.args.request.now) c.in-On.os Unix c.in-On.work (g.R.Read.remaining (marked_inner c.args.reader.now)) (g.R.Read.remaining (marked_inner c.run_on.new.reader)) (g.W.Write.contents (marked_inner c.args.writer.now)) (g.W.Write.contents (marked_inner c.run_on.new.writer)) c.run_on.result c.in-On.is c.in-Unix.is c.run_on.ensures.run

pub returns-in-Windows-clause-run : goal.returns-in-Windows-clause-run
returns-in-Windows-clause-run g c =
    works (g.F.Files.known c.args.files.now) g.row.A.Denot (requested_of c.args.request.now) c.in-On.os Windows c.in-On.work (g.R.Read.remaining (marked_inner c.args.reader.now)) (g.R.Read.remaining (marked_inner c.run_on-in-Windows.new.reader)) (g.W.Write.contents (marked_inner c.args.writer.now)) (g.W.Write.contents (marked_inner c.run_on-in-Windows.new.writer)) c.run_on-in-Windows.result c.in-On.is c.in-Windows.is c.run_on-in-Windows.ensures.run

pub returns-in-Wasm-clause-run : goal.returns-in-Wasm-clause-run
returns-in-Wasm-clause-run g c =
    works (g.F.Files.known c.args.files.now) g.row.A.Denot (requested_of c.args.request.now) c.in-On.os Wasm c.in-On.work (g.R.Read.remaining (marked_inner c.args.reader.now)) (g.R.Read.remaining (marked_inner c.run_on-in-Wasm.new.reader)) (g.W.Write.contents (marked_inner c.args.writer.now)) (g.W.Write.contents (marked_inner c.run_on-in-Wasm.new.writer)) c.run_on-in-Wasm.result c.in-On.is c.in-Wasm.is c.run_on-in-Wasm.ensures.run
