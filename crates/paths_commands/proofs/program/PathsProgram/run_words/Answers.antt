use Rattle.std.proofs.Common.{◌≡◌, ⊎_elim, inl, rules, map, refl, sym, subst}
use Rattle.std.specs.Prelude.{string_bytes}
use Rattle.os_args.specs.Views.{fault_of}
use Rattle.list_programs.specs.Arguments.{AreGiven, HasFault}
use Rattle.paths_commands.specs.Options.{has_value, spelled}
use Rattle.paths_commands.proofs.lemmas.Requests.{fault_ends, line_runs}
use Rattle.paths_commands.proofs.program.PathsProgram.run_words.Goals as goal

pub returns-in-Ok : goal.returns-in-Ok
returns-in-Ok g c =
    let same : c.deref.result.now ≡ c.in-Ok.given.items = search rules in
    (⊎_elim inl (line_runs _ _ _ _ _ _ c.after_end.result c.deref.result.now (subst (AreGiven spelled has_value (map string_bytes c.args.words.now)) (sym same) c.in-Ok.ensures.given, c.after_end.ensures)) c.run_line.ensures.run, c.run_line.ensures.ends)

pub returns-in_ok-of-in-Err-Misuse : goal.returns-in_ok-of-in-Err-Misuse
returns-in_ok-of-in-Err-Misuse g c =
    let faulty : HasFault spelled has_value (map string_bytes c.args.words.now) (fault_of c.in-Err-Misuse.error) = search rules in
    (fault_ends _ _ _ _ _ _ c.in-Err-Misuse.error _ faulty c.in_ok-of-in-Err-Misuse.ensures (refl, (refl, refl)), search rules)
