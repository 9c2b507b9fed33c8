use Rattle.std.proofs.Common.{◌==◌, ◌||◌, inl, inr, [], ◌++◌, Bool, Result, Ok, Err, IfOk, length, refl, sym, ap, ◌∙◌, subst, arith}
use Rattle.std.proofs.KnownBytes.{Appends-nil}
use Rattle.std.proofs.Math.Bool.{or-false}
use Rattle.std.proofs.lemmas.Bool.{eqb-true, false≢true}
use Rattle.std.proofs.lemmas.List.{nil_from_length}
use Rattle.std.proofs.lemmas.Result.{IfErr-weaker}
use Rattle.std.specs.Io.KnownBytes.{Appends}
use Rattle.program_frame.specs.Marked.{marked_inner}
use Rattle.program_frame.specs.Written.{AppendsBeginning}
use Rattle.program_frame.specs.declared.fault.Failure.{Failure}
use Rattle.program_frame.specs.declared.fault.Failure.TheVariants.{Read, Write}
use Rattle.list_programs.specs.ListRun.{IsLast, has_some}
use Rattle.list_programs.specs.Reading.{IsEnded}
use Rattle.list_programs.specs.Rules.{EndsRun, passing}
use Rattle.list_programs.proofs.lemmas.Runs.{no_err, at_end, item_memory, read_no_memory, write_no_memory}
use Rattle.list_programs.proofs.lemmas.Reading.{of_item}
use Rattle.list_programs.proofs.run.finish.Goals as goal

both_ok : {X E : Type 0} (r : Result X E) (P Q S : X → Type 0) → ((x : X) → P x → Q x → S x) → IfOk r P → IfOk r Q → IfOk r S
both_ok (Ok x) P Q S f h k = f x h k
both_ok (Err e) P Q S f h k = tt

pub returns-then-is_empty : goal.returns-then-is_empty
returns-then-is_empty g c =
    let none = nil_from_length c.args.begun.now (eqb-true _ _ (sym c.is_empty.ensures ∙ c.if-is_empty.true)) in record {
      ok = ([], (inl (none, refl), (Appends-nil (g.W.Write.contents (marked_inner c.args.writer.now)), sym (or-false c.args.so_far.wrote))));
      stopped = tt;
      ended = tt;
      unchanged = tt;
      beginning = λ e. absurd (no_err e);
      no_read = λ e. no_err e;
      marked = (λ e. absurd (no_err e), λ set. absurd (false≢true (sym c.requires.unmarked ∙ set)));
      more = omega arith;
      ends = tt;
    }

pub returns : goal.returns
returns g c =
    let taken = c.takes_unended.ensures.0 c.if-not-takes_unended.false in
    let rejected = λ (why : Failure). item_memory (g.T.ListTask.rules (g.T.ListTask.plan c.args.task.now)) {X = Bool} _ _ _ why c.in-Err.ensures.fault in record {
      ok = tt;
      stopped = λ _. of_item (g.T.ListTask.rules (g.T.ListTask.plan c.args.task.now)) _ _ _ c.in-Err.ensures.fault;
      ended = at_end (g.T.ListTask.rules (g.T.ListTask.plan c.args.task.now)) _ _ _ taken c.in-Err.ensures.fault;
      unchanged = λ _. refl;
      beginning = λ e. absurd (write_no_memory (rejected Write e));
      no_read = λ e. read_no_memory (rejected Read e);
      marked = (λ e. absurd (write_no_memory (rejected Write e)), λ set. absurd (false≢true (sym c.requires.unmarked ∙ set)));
      more = c.in-Err.ensures.more;
      ends = c.in-Err.ensures.ends;
    }

pub returns-in-Ok : goal.returns-in-Ok
returns-in-Ok g c =
    let text = c.in-Ok.ensures.ok in
    let written = c.write_output.ensures in
    let old = g.W.Write.contents (marked_inner c.args.writer.now) in
    let new = g.W.Write.contents (marked_inner c.write_output.new.writer) in
    let same = c.deref.ensures.value ∙ text.1.1 ∙ ap (λ x. x ++ text.0) c.new-output.ensures.items in
    let last : IsLast (passing (g.N.Rejections.passed c.write_at.new.rejections) (g.T.ListTask.rules (g.T.ListTask.plan c.args.task.now))) c.args.begun.now text.0 = record {
      some = λ none. false≢true (sym c.if-is_empty.false ∙ c.is_empty.ensures ∙ ap (λ x. length x == 0) none);
      taken = c.takes_unended.ensures.0 c.if-not-takes_unended.false;
      entry = record { whole = c.requires.begun.whole; short = c.requires.begun.short; text = text.1.0 };
    } in record {
      ok = both_ok c.write_output.result _ _ _ (λ wrote all is. (text.0, (inr last, (subst (Appends old new) same all, is ∙ ap (λ x. c.args.so_far.wrote || has_some x) same)))) written.written written.some;
      stopped = IfErr-weaker c.write_output.result _ _ (λ fault is not_write. absurd (not_write is)) written.fault;
      ended = IfErr-weaker c.write_output.result _ _ (λ fault is. subst (λ f. IsEnded (g.T.ListTask.rules (g.T.ListTask.plan c.args.task.now)) f []) (sym is) tt) written.fault;
      unchanged = IfErr-weaker c.write_output.result _ _ (λ fault is not_write. absurd (not_write is)) written.fault;
      beginning = λ e. (text.0, (last, subst (AppendsBeginning old new) same (written.beginning e)));
      no_read = written.no_read;
      marked = written.marked;
      more = c.in-Ok.ensures.more;
      ends = IfErr-weaker c.write_output.result _ _ (λ fault is. subst (EndsRun (g.N.Rejections.stops)) (sym is) tt) written.fault;
    }
