use Rattle.std.proofs.Common.{◌≡◌, ℕ, List, Result, Err, IfErr, map, inl, inr, refl, sym, ap, ◌∙◌, subst}
use Rattle.std.proofs.lemmas.Bool.{false≢true, and_left}
use Rattle.std.proofs.lemmas.Result.{IfOk-weaker, IfErr-weaker}
use Rattle.std.specs.Prelude.{⊤, string_bytes}
use Rattle.std.specs.Io.KnownBytes.{Appends}
use Rattle.program_frame.specs.Ended.{message, outcome_of}
use Rattle.program_frame.specs.Words.{words_after_name}
use Rattle.program_frame.specs.Written.{AppendsBeginning}
use Rattle.program_frame.specs.declared.words.NoWords.TheVariants as no_words
use Rattle.program_frame.proofs.lemmas.Results.{OnOk-from, IfOk-from, IfErr-from, IfErr-from_ok}
use Rattle.program_frame.proofs.program.execute.Goals as goal

-- words lack for one reason
one_reason : {X : Type 0} → ◌≡◌ {A = Result X _} (Err no_words.Memory) (Err no_words.Unreadable) → ⊥
one_reason e = cc

one_cause : no_words.Unreadable ≡ no_words.Memory → ⊥
one_cause e = cc

-- what holds of an outcome and a name holds of equal ones
same_reported : {F : Type 0} (reported outcome : Result ⊤ F) (given name : List ℕ) (Says : List ℕ → F → Type 0) → reported ≡ outcome → given ≡ name → IfErr outcome (Says given) → IfErr reported (Says name)
same_reported reported outcome given name Says is same says = subst (λ o. IfErr o (Says name)) (sym is) (subst (λ n. IfErr outcome (Says n)) same says)

pub returns-in-Ok : goal.returns-in-Ok
returns-in-Ok g c =
    let outcome = c.reporting_unless.ensures.outcome in record {
      ok = OnOk-from c.reporting_unless.result.outcome c.in-Ok.ensures.ok;
      no_words = IfErr-from_ok c.args.args _ c.in-Ok.ensures.ok;
      no_memory = IfErr-from_ok c.args.args _ c.in-Ok.ensures.ok;
      untouched = IfErr-from_ok c.args.args _ c.in-Ok.ensures.ok;
      run = IfOk-weaker c.args.args _ _
          (λ args same.
          let words : map string_bytes c.deref.result.now ≡ words_after_name args = ap (map string_bytes) c.deref.ensures.value ∙ same in
          inr (rw (outcome, ← words) c.run_words-outcome.ensures))
          c.in-Ok.ensures.words;
      closed = λ closed. c.reporting_unless.ensures.closed (c.closed.ensures ∙ closed);
      quiet = rw outcome c.reporting_unless.ensures.quiet;
      silent = rw outcome c.reporting_unless.ensures.silent;
      reported = λ reported.
          same_reported (outcome_of c.reporting_unless.result) c.run_words-outcome.result c.name.result.now g.P.Program.name
          (λ name fault. Appends (g.E.Write.contents c.args.errors.now) (g.E.Write.contents c.reporting_unless.new.errors) (message name (g.P.Fault.ProgramFault.text_of fault)))
          outcome c.name.ensures (c.reporting_unless.ensures.reported reported);
      beginning = same_reported (outcome_of c.reporting_unless.result) c.run_words-outcome.result c.name.result.now g.P.Program.name
          (λ name fault. AppendsBeginning (g.E.Write.contents c.args.errors.now) (g.E.Write.contents c.reporting_unless.new.errors) (message name (g.P.Fault.ProgramFault.text_of fault)))
          outcome c.name.ensures c.reporting_unless.ensures.beginning;
    }

pub returns-in-Err-Memory : goal.returns-in-Err-Memory
returns-in-Err-Memory g c =
    let outcome = c.reporting.ensures.outcome in
    let memory = outcome ∙ ap Err c.out_of_memory.ensures in record {
      ok = rw outcome tt;
      no_words = IfErr-weaker c.args.args _ _ (λ error unreadable other. absurd (one_reason (sym (c.in-Err-Memory.is ∙ ap Err c.in-Err-Memory.field-0-is) ∙ unreadable other))) c.words.ensures.no_words;
      no_memory = IfErr-from c.args.args _ (λ error _. memory);
      untouched = IfErr-from c.args.args _ (λ error. (refl, refl));
      run = IfOk-from c.args.args _ (λ args. inl (memory, (refl, refl)));
      closed = λ set. absurd (false≢true (sym (and_left _ _ c.requires.writer_unmarked) ∙ set));
      quiet = rw outcome tt;
      silent = rw outcome c.reporting.ensures.silent;
      reported = λ reported.
          same_reported (outcome_of c.reporting.result) (Err c.out_of_memory.result) c.name-in-Err-Memory.result.now g.P.Program.name
          (λ name fault. Appends (g.E.Write.contents c.args.errors.now) (g.E.Write.contents c.reporting.new.errors) (message name (g.P.Fault.ProgramFault.text_of fault)))
          outcome c.name-in-Err-Memory.ensures (c.reporting.ensures.reported reported);
      beginning = same_reported (outcome_of c.reporting.result) (Err c.out_of_memory.result) c.name-in-Err-Memory.result.now g.P.Program.name
          (λ name fault. AppendsBeginning (g.E.Write.contents c.args.errors.now) (g.E.Write.contents c.reporting.new.errors) (message name (g.P.Fault.ProgramFault.text_of fault)))
          outcome c.name-in-Err-Memory.ensures c.reporting.ensures.beginning;
    }

pub returns-in-Err-Unreadable : goal.returns-in-Err-Unreadable
returns-in-Err-Unreadable g c =
    let outcome = c.reporting-in-Err-Unreadable.ensures.outcome in
    let is = c.in-Err-Unreadable.is ∙ ap Err c.in-Err-Unreadable.field-0-is in record {
      ok = rw outcome tt;
      no_words = IfErr-from c.args.args _ (λ error _. outcome ∙ ap Err c.unreadable.ensures);
      no_memory = IfErr-weaker c.args.args _ _ (λ error memory kind. absurd (one_reason (sym (memory kind) ∙ is))) c.words.ensures.no_memory;
      untouched = IfErr-from c.args.args _ (λ error. (refl, refl));
      run = IfOk-weaker c.args.args _ _ (λ args memory. absurd (one_cause (subst (λ r. IfErr r (λ why. why ≡ no_words.Memory)) is memory))) c.words.ensures.memory;
      closed = λ set. absurd (false≢true (sym (and_left _ _ c.requires.writer_unmarked) ∙ set));
      quiet = rw outcome tt;
      silent = rw outcome c.reporting-in-Err-Unreadable.ensures.silent;
      reported = λ reported.
          same_reported (outcome_of c.reporting-in-Err-Unreadable.result) (Err c.unreadable.result) c.name-in-Err-Unreadable.result.now g.P.Program.name
          (λ name fault. Appends (g.E.Write.contents c.args.errors.now) (g.E.Write.contents c.reporting-in-Err-Unreadable.new.errors) (message name (g.P.Fault.ProgramFault.text_of fault)))
          outcome c.name-in-Err-Unreadable.ensures (c.reporting-in-Err-Unreadable.ensures.reported reported);
      beginning = same_reported (outcome_of c.reporting-in-Err-Unreadable.result) (Err c.unreadable.result) c.name-in-Err-Unreadable.result.now g.P.Program.name
          (λ name fault. AppendsBeginning (g.E.Write.contents c.args.errors.now) (g.E.Write.contents c.reporting-in-Err-Unreadable.new.errors) (message name (g.P.Fault.ProgramFault.text_of fault)))
          outcome c.name-in-Err-Unreadable.ensures c.reporting-in-Err-Unreadable.ensures.beginning;
    }
