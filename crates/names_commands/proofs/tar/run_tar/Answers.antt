use Rattle.std.proofs.Common.{◌≡◌, false, sym, ◌∙◌}
use Rattle.std.proofs.lemmas.Bool.{false≢true}
use Rattle.program_frame.specs.Marked.{has_failed}
use Rattle.program_frame.specs.declared.fault.Failure.TheVariants.{Read, Write}
use Rattle.names_commands.proofs.lemmas.Entries.{no_blame}
use Rattle.names_commands.proofs.tar.run_tar.Goals as goal

pub returns-in-Ok-write_out-clause-ends : goal.returns-in-Ok-write_out-clause-ends
returns-in-Ok-write_out-clause-ends g c =
    let never = no_blame g.E.Platform c.args.list c.in-Ok-names_of.made.1 c.in-Ok-names_of.ensures c.outcome_of.result c.outcome_of.ensures in
    let reader : has_failed c.read_all.new.reader ≡ false = c.in-Ok.ensures.unchanged (λ e. cc) ∙ c.requires.reader_unmarked in
    let writer : has_failed c.write_out.new.writer ≡ false = c.in-Ok-write_out.ensures.unmarked in
    ((λ e. absurd (never Read e), λ m. absurd (false≢true (sym reader ∙ m))), (λ e. absurd (never Write e), λ m. absurd (false≢true (sym writer ∙ m))))
