use Rattle.std.proofs.Common.{refl, ◌∙◌, subst, arith}
use Rattle.list_programs.specs.Items.{Lacks, IsCutAt}
use Rattle.list_programs.specs.Rules.{passing}
use Rattle.list_programs.proofs.lemmas.Passing.{later_up_to}
use Rattle.list_programs.proofs.lemmas.Reading.{at_start, after_item, at_item, at_end, not_kept, ends_any}
use Rattle.list_programs.proofs.reading.read_block.Goals as goal

pub loop-last-init : goal.loop-last-init
loop-last-init g c = record {
  up_to = at_start (passing (g.N.Rejections.passed c.args.rejections.now) (g.T.ListTask.rules (g.T.ListTask.plan c.args.task.now))) _ _ _ _ c.requires.begun c.requires.counted;
  more = omega arith;
  plan = refl;
}

pub loop-last-preserved : goal.loop-last-preserved
loop-last-preserved g c =
    let text = c.in-Ok.ensures.ok in
    let cut = subst (λ x. IsCutAt x c.loop-last.rest.now c.in-Some.last.now c.in-Some.after.now) (c.byte.ensures ∙ c.end.ensures) c.in-Some.ensures in
    let before = later_up_to (g.T.ListTask.rules (g.T.ListTask.plan c.loop-last.task)) _ (g.N.Rejections.passed c.end_item.new.rejections) c.in-Ok.ensures.more _ _ _ _ c.loop-last.invariant.up_to in record {
      up_to = rw c.in-Ok.ensures.plan (after_item (passing (g.N.Rejections.passed c.end_item.new.rejections) (g.T.ListTask.rules (g.T.ListTask.plan c.loop-last.task))) _ _ _ _ _ _ _ _ _ before cut text.1 text.2 refl _ c.in-Ok.ensures.none);
      more = omega (arith, c.loop-last.invariant.more, c.in-Ok.ensures.more);
      plan = c.in-Ok.ensures.plan ∙ c.loop-last.invariant.plan;
    }

pub returns-in-Err : goal.returns-in-Err
returns-in-Err g c =
    let list = passing (g.N.Rejections.passed c.end_item.new.rejections) (g.T.ListTask.rules (g.T.ListTask.plan c.loop-last.task)) in
    let cut = subst (λ x. IsCutAt x c.loop-last.rest.now c.in-Some.last.now c.in-Some.after.now) (c.byte.ensures ∙ c.end.ensures) c.in-Some.ensures in
    let before = later_up_to (g.T.ListTask.rules (g.T.ListTask.plan c.loop-last.task)) _ (g.N.Rejections.passed c.end_item.new.rejections) c.in-Err.ensures.more _ _ _ _ c.loop-last.invariant.up_to in record {
      ok = tt;
      fault = rw (← c.loop-last.invariant.plan) (at_item list _ _ _ _ _ _ _ _ before cut c.in-Err.ensures.fault c.in-Err.ensures.unchanged);
      more = omega (arith, c.loop-last.invariant.more, c.in-Err.ensures.more);
      ends = c.in-Err.ensures.ends;
      plan = c.in-Err.ensures.plan ∙ c.loop-last.invariant.plan;
    }

pub returns-in-Ok-keep : goal.returns-in-Ok-keep
returns-in-Ok-keep g c =
    let list = passing (g.N.Rejections.passed c.loop-last.rejections) (g.T.ListTask.rules (g.T.ListTask.plan c.loop-last.task)) in
    let lacks = subst (λ x. Lacks x c.loop-last.rest.now) (c.byte.ensures ∙ c.end.ensures) c.in_default.ensures in record {
      ok = rw (← c.loop-last.invariant.plan) (at_end list _ _ _ _ _ _ c.loop-last.invariant.up_to lacks c.in-Ok-keep.ensures.kept c.in-Ok-keep.ensures.short refl);
      fault = tt;
      more = c.loop-last.invariant.more;
      ends = tt;
      plan = c.loop-last.invariant.plan;
    }

pub returns-in-Err-keep : goal.returns-in-Err-keep
returns-in-Err-keep g c =
    let list = passing (g.N.Rejections.passed c.loop-last.rejections) (g.T.ListTask.rules (g.T.ListTask.plan c.loop-last.task)) in
    let lacks = subst (λ x. Lacks x c.loop-last.rest.now) (c.byte.ensures ∙ c.end.ensures) c.in_default.ensures in record {
      ok = tt;
      fault = rw (← c.loop-last.invariant.plan) (not_kept list _ _ _ _ _ _ c.loop-last.invariant.up_to lacks c.in-Err-keep.ensures.fault refl);
      more = c.loop-last.invariant.more;
      ends = ends_any g.N.Rejections.stops c.in-Err-keep.fault c.in-Err-keep.ensures.ends;
      plan = c.loop-last.invariant.plan;
    }
