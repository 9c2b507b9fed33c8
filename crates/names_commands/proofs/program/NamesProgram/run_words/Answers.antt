use Rattle.std.proofs.Common.{⊎_elim, inl, inr, subst}
use Rattle.program_frame.specs.Marked.{marked_inner}
use Rattle.names_commands.specs.Program.{RunsLine, UnlessOutOfMemory}
use Rattle.names_commands.proofs.program.NamesProgram.run_words.Goals as goal

pub returns-in-Ok : goal.returns-in-Ok
returns-in-Ok g c =
    let ran = subst (λ given. UnlessOutOfMemory (RunsLine (g.F.Files.known c.args.self.now.files) g.row.A.Denot given) (g.R.Read.remaining (marked_inner c.args.reader.now)) (g.R.Read.remaining (marked_inner c.run_line.new.reader)) (g.W.Write.contents (marked_inner c.args.writer.now)) (g.W.Write.contents (marked_inner c.run_line.new.writer)) c.run_line.result) c.deref.ensures.value c.run_line.ensures.run in
    (⊎_elim inl (λ runs. inr (inr (c.in-Ok.given.items, (c.in-Ok.ensures.given, runs)))) ran, c.run_line.ensures.ends)
