use Rattle.std.proofs.Common.{inl, inr, [], refl, sym, ap, ◌∙◌, subst, append-nil, arith}
use Rattle.list_programs.specs.Rules.{IsItemFault}
use Rattle.list_programs.proofs.reading.write_at.Goals as goal

pub returns-then-passes-clause-ok : goal.returns-then-passes-clause-ok
returns-then-passes-clause-ok g c =
    let rejected = subst (IsItemFault (g.T.ListTask.rules (g.T.ListTask.plan c.args.task.now)) c.args.item.now) c.in-Err-Rejected.field-0-is c.in-Err-Rejected.ensures.fault in
    ([], (inr (c.passes.ensures.some c.if-passes.true, (refl, (c.in-Err-Rejected.why, rejected))), c.in-Err-Rejected.ensures.unchanged ∙ sym (append-nil c.args.output.now.items)))

pub returns-in-Ok : goal.returns-in-Ok
returns-in-Ok g c =
    let text = c.in-Ok.ensures.ok in record {
      ok = (text.0, (inl text.1.0, text.1.1));
      fault = tt;
      unchanged = tt;
      more = omega arith;
      ends = tt;
      plan = c.in-Ok.ensures.plan;
    }

pub returns-else-passes : goal.returns-else-passes
returns-else-passes g c = record {
  ok = tt;
  fault = (refl, (c.requires.short, subst (IsItemFault (g.T.ListTask.rules (g.T.ListTask.plan c.args.task.now)) c.args.item.now) c.in-Err-Rejected.field-0-is c.in-Err-Rejected.ensures.fault));
  unchanged = c.in-Err-Rejected.ensures.unchanged;
  more = c.passes.ensures.more;
  ends = c.passes.ensures.ends c.if-passes.false;
  plan = c.in-Err-Rejected.ensures.plan;
}

pub returns-in-Err-TooLong : goal.returns-in-Err-TooLong
returns-in-Err-TooLong g c = record {
  ok = tt;
  fault = (refl, (c.max.ensures ∙ ap (λ plan. (g.T.ListTask.rules plan).max) c.in-Err-TooLong.ensures.plan, inr (subst (IsItemFault (g.T.ListTask.rules (g.T.ListTask.plan c.args.task.now)) c.args.item.now) c.in-Err-TooLong.field-0-is c.in-Err-TooLong.ensures.fault)));
  unchanged = c.in-Err-TooLong.ensures.unchanged;
  more = omega arith;
  ends = tt;
  plan = c.in-Err-TooLong.ensures.plan;
}

pub returns-in-Err-Memory : goal.returns-in-Err-Memory
returns-in-Err-Memory g c = record {
  ok = tt;
  fault = refl;
  unchanged = c.in-Err-Memory.ensures.unchanged;
  more = omega arith;
  ends = tt;
  plan = c.in-Err-Memory.ensures.plan;
}
