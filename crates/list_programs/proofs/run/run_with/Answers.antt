use Rattle.std.proofs.Common.{◌≡◌, [], ℕ, ◌+◌, ◌<◌, ◌||◌, Bool, true, false, rules, length, take, Result, Ok, Err, IfErr, refl, sym, ap, ◌∙◌, subst, arith}
use Rattle.std.proofs.lemmas.Bool.{false≢true, or_right}
use Rattle.std.proofs.KnownBytes.{Appends-nil}
use Rattle.std.proofs.lemmas.Result.{IfOk-weaker}
use Rattle.std.specs.Io.KnownBytes.{Consumes}
use Rattle.std.specs.Prelude.{⊤}
use Rattle.program_frame.specs.Marked.{marked_inner}
use Rattle.program_frame.specs.declared.fault.Failure.TheVariants.{Read}
use Rattle.list_programs.specs.Rules.{IsRejected, passing}
use Rattle.list_programs.specs.ListRun.{HasRead, WritesUpTo, Finishes, IsLast}
use Rattle.program_frame.proofs.lemmas.Results.{OnOk-from}
use Rattle.list_programs.proofs.lemmas.Passing.{later_has_read}
use Rattle.list_programs.proofs.lemmas.Runs.{no_err, other_err, write_no_read, too_much_no_run, counted, more_read, nothing_read, some_more, stopped, half_written, so_far, too_much, finished, last_rejected, last_half}
use Rattle.list_programs.proofs.run.run_with.Goals as goal

-- a mark that isn't set is unset
unset : (mark : Bool) → (mark ≡ true → ⊥) → mark ≡ false
unset true h = absurd (h refl)
unset false h = refl

all_err : {X F : Type 0} (r : Result X F) (P Q R S : F → Type 0) → ((e : F) → P e → Q e → R e → S e) → IfErr r P → IfErr r Q → IfErr r R → IfErr r S
all_err (Ok x) P Q R S f h k l = tt
all_err (Err e) P Q R S f h k l = f e h k l

pub loop-alloc-init : goal.loop-alloc-init
loop-alloc-init g c =
    let list = passing (g.N.Rejections.passed c.args.rejections.now) (g.T.ListTask.rules (g.T.ListTask.plan c.args.task.now)) in
    let input = g.R.Read.remaining (marked_inner c.args.reader.now) in
    let old = g.W.Write.contents (marked_inner c.args.writer.now) in record {
      read = subst (λ begun. HasRead list input input old old begun 0 0) (sym c.new-begun.ensures.items) (nothing_read list input old);
      wrote = ([], (Appends-nil old, refl));
      within = omega arith;
      reader_unmarked = c.requires.reader_unmarked;
      writer_unmarked = c.requires.writer_unmarked;
      plan = refl;
    }

pub finish-requires-clause-counted : goal.finish-requires-clause-counted
finish-requires-clause-counted g c = omega (arith, counted (passing (g.N.Rejections.passed c.loop-alloc.rejections) (g.T.ListTask.rules (g.T.ListTask.plan c.loop-alloc.task))) _ _ (g.R.Read.remaining (marked_inner c.loop-alloc.reader)) _ _ (g.W.Write.contents (marked_inner c.loop-alloc.writer)) _ _ _ c.loop-alloc.invariant.read, c.loop-alloc.invariant.within)

pub write_block-requires-clause-counted : goal.write_block-requires-clause-counted
write_block-requires-clause-counted g c =
    let most : length (take c.in-Ok.size c.read.new.buf) ≡ c.in-Ok.size = sym c.in-Ok.ensures.bound.1 in
    omega (arith, counted (passing (g.N.Rejections.passed c.loop-alloc.rejections) (g.T.ListTask.rules (g.T.ListTask.plan c.loop-alloc.task))) _ _ (g.R.Read.remaining (marked_inner c.loop-alloc.reader)) _ _ (g.W.Write.contents (marked_inner c.loop-alloc.writer)) _ _ _ c.loop-alloc.invariant.read, c.if-size-total.false, most)

pub returns-in-Ok-eq0 : goal.returns-in-Ok-eq0
returns-in-Ok-eq0 g c =
    let list = passing (g.N.Rejections.passed c.finish.new.rejections) (g.T.ListTask.rules (g.T.ListTask.plan c.loop-alloc.task)) in
    let read = later_has_read (g.T.ListTask.rules (g.T.ListTask.plan c.loop-alloc.task)) _ (g.N.Rejections.passed c.finish.new.rejections) c.finish.ensures.more _ _ _ _ _ _ _ c.loop-alloc.invariant.read in
    let consumed = subst (λ n. Consumes (g.R.Read.remaining (marked_inner c.loop-alloc.reader)) (g.R.Read.remaining (marked_inner c.read.new.self)) (take n c.read.new.buf)) c.in-Ok-eq0.field-0-test c.in-Ok-eq0.ensures.bytes.0 in
    let room : 0 < length c.read.new.buf = search rules in
    let end = c.in-Ok-eq0.ensures.bytes.1 c.in-Ok-eq0.field-0-test room in
    let unread = c.in-Ok-eq0.ensures.mark ∙ ap (λ x. x || false) c.loop-alloc.invariant.reader_unmarked in record {
      all_read = OnOk-from c.finish.result end;
      written = rw (← c.loop-alloc.invariant.plan) (IfOk-weaker c.finish.result _ _
          (λ wrote text. finished list _ _ _ _ _ _ _ _ _ read text.0 consumed end (subst (λ x. Finishes list x text.0) c.deref.ensures.value text.1.0) text.1.1.0)
          c.finish.ensures.ok);
      some = IfOk-weaker c.finish.result _ _ (λ wrote text. some_more _ wrote _ _ _ text.0 c.loop-alloc.invariant.wrote text.1.1.0 text.1.1.1) c.finish.ensures.ok;
      stopped = rw (← c.loop-alloc.invariant.plan) (all_err c.finish.result _ _ _ _
          (λ fault item same ended not_write.
          subst (λ w. WritesUpTo list fault (g.R.Read.remaining (marked_inner c.args.reader.now)) (g.W.Write.contents (marked_inner c.args.writer.now)) (g.W.Write.contents (marked_inner w))) (sym (same not_write))
          (last_rejected list _ _ _ _ _ (g.W.Write.contents (marked_inner c.loop-alloc.writer)) _ _ _ read fault consumed end (subst (λ x. IsRejected list (c.loop-alloc.so_far.count + 1) x fault) c.deref.ensures.value (item not_write)) ended))
          c.finish.ensures.stopped c.finish.ensures.unchanged c.finish.ensures.ended);
      beginning = λ e.
          let text = c.finish.ensures.beginning e in
          rw (← c.loop-alloc.invariant.plan) (last_half list _ _ _ _ _ _ _ _ _ read text.0 consumed end (subst (λ x. IsLast list x text.0) c.deref.ensures.value text.1.0) text.1.1);
      ends = c.finish.ensures.ends;
      read = (λ e. absurd (c.finish.ensures.no_read e), λ set. absurd (false≢true (sym unread ∙ set)));
      write = c.finish.ensures.marked;
    }

pub returns-in-Err : goal.returns-in-Err
returns-in-Err g c = record {
  all_read = tt;
  written = tt;
  some = tt;
  stopped = λ not_write. rw (← c.loop-alloc.invariant.plan) (so_far (passing (g.N.Rejections.passed c.loop-alloc.rejections) (g.T.ListTask.rules (g.T.ListTask.plan c.loop-alloc.task))) _ _ (g.R.Read.remaining (marked_inner c.loop-alloc.reader)) _ _ (g.W.Write.contents (marked_inner c.loop-alloc.writer)) _ _ _ c.loop-alloc.invariant.read Read);
  beginning = λ e. absurd (write_no_read (sym e));
  ends = tt;
  read = (λ _. c.in-Err.ensures.mark ∙ or_right _ true refl, λ _. refl);
  write = (λ e. absurd (write_no_read (sym e)), λ set. absurd (false≢true (sym c.loop-alloc.invariant.writer_unmarked ∙ set)));
}

pub returns-then-size-total : goal.returns-then-size-total
returns-then-size-total g c =
    let most : length (take c.in-Ok.size c.read.new.buf) ≡ c.in-Ok.size = sym c.in-Ok.ensures.bound.1 in
    let unread = c.in-Ok.ensures.mark ∙ ap (λ x. x || false) c.loop-alloc.invariant.reader_unmarked in record {
      all_read = tt;
      written = tt;
      some = tt;
      stopped = λ not_write. rw (← c.loop-alloc.invariant.plan) (too_much (passing (g.N.Rejections.passed c.loop-alloc.rejections) (g.T.ListTask.rules (g.T.ListTask.plan c.loop-alloc.task))) _ _ _ _ _ (g.W.Write.contents (marked_inner c.loop-alloc.writer)) _ _ _ c.loop-alloc.invariant.read _ c.in-Ok.ensures.bytes.0 (omega (arith, c.if-size-total.true, most)));
      beginning = λ e. absurd (too_much_no_run e);
      ends = tt;
      read = (λ e. absurd (too_much_no_run e), λ set. absurd (false≢true (sym unread ∙ set)));
      write = (λ e. absurd (too_much_no_run e), λ set. absurd (false≢true (sym c.loop-alloc.invariant.writer_unmarked ∙ set)));
    }

pub loop-alloc-preserved : goal.loop-alloc-preserved
loop-alloc-preserved g c =
    let read = later_has_read (g.T.ListTask.rules (g.T.ListTask.plan c.loop-alloc.task)) _ (g.N.Rejections.passed c.write_block.new.rejections) c.in-Ok-write_block.ensures.more _ _ _ _ _ _ _ c.loop-alloc.invariant.read in
    let most : length (take c.in-Ok.size c.read.new.buf) ≡ c.in-Ok.size = sym c.in-Ok.ensures.bound.1 in
    let consumed = c.in-Ok.ensures.bytes.0 in
    let text = c.in-Ok-write_block.ensures.ok in record {
      read = rw c.in-Ok-write_block.ensures.plan (more_read (passing (g.N.Rejections.passed c.write_block.new.rejections) (g.T.ListTask.rules (g.T.ListTask.plan c.loop-alloc.task))) _ _ _ _ _ _ _ _ _ read _ _ text.0 _ _ consumed text.1.0 text.1.1.0 (omega (arith, most)));
      wrote = some_more _ _ _ _ _ text.0 c.loop-alloc.invariant.wrote text.1.1.0 text.1.1.1;
      within = omega (arith, c.if-size-total.false, c.loop-alloc.invariant.within);
      reader_unmarked = c.in-Ok.ensures.mark ∙ ap (λ x. x || false) c.loop-alloc.invariant.reader_unmarked;
      writer_unmarked = unset _ (λ set. no_err (c.in-Ok-write_block.ensures.marked.1 set));
      plan = c.in-Ok-write_block.ensures.plan ∙ c.loop-alloc.invariant.plan;
    }

pub returns-in-Err-write_block : goal.returns-in-Err-write_block
returns-in-Err-write_block g c =
    let list = passing (g.N.Rejections.passed c.write_block.new.rejections) (g.T.ListTask.rules (g.T.ListTask.plan c.loop-alloc.task)) in
    let read = later_has_read (g.T.ListTask.rules (g.T.ListTask.plan c.loop-alloc.task)) _ (g.N.Rejections.passed c.write_block.new.rejections) c.in-Err-write_block.ensures.more _ _ _ _ _ _ _ c.loop-alloc.invariant.read in
    let consumed = c.in-Ok.ensures.bytes.0 in
    let unread = c.in-Ok.ensures.mark ∙ ap (λ x. x || false) c.loop-alloc.invariant.reader_unmarked in record {
      all_read = tt;
      written = tt;
      some = tt;
      stopped = λ not_write.
          let text = c.in-Err-write_block.ensures.stopped not_write in
          rw (← c.loop-alloc.invariant.plan) (stopped list _ _ _ _ _ _ _ _ _ read _ text.0 c.in-Err-write_block.fault consumed text.1.0 text.1.1);
      beginning = λ e.
          let text = c.in-Err-write_block.ensures.beginning (other_err _ _ _ _ e) in
          rw (← c.loop-alloc.invariant.plan) (half_written list _ _ _ _ _ _ _ _ _ read _ text.0 consumed text.1.0 text.1.1);
      ends = c.in-Err-write_block.ensures.ends;
      read = (λ e. absurd (c.in-Err-write_block.ensures.no_read (other_err _ _ _ _ e)), λ set. absurd (false≢true (sym unread ∙ set)));
      write = (λ e. c.in-Err-write_block.ensures.marked.0 (other_err _ _ _ _ e), λ set. other_err _ _ _ _ (c.in-Err-write_block.ensures.marked.1 set));
    }
