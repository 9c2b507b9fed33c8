use Rattle.std.proofs.Common.{◌≡◌, ◌≤◌, ◌++◌, [], length, IfErr, refl, sym, ◌∙◌, subst, arith}
use Rattle.std.proofs.lemmas.Bool.{eqb-true}
use Rattle.std.proofs.lemmas.List.{nil_from_length}
use Rattle.std.proofs.lemmas.Result.{on_ok_weaker}
use Rattle.list_programs.specs.Rules.{IsFaultAt, IsEntry, passing}
use Rattle.program_frame.proofs.lemmas.Results.{OnOk-from}
use Rattle.list_programs.proofs.lemmas.Reading.{ends_any, lacks-append, of_kept}
use Rattle.list_programs.proofs.reading.end_item.Goals as goal

pub returns-then-last-longest_item : goal.returns-then-last-longest_item
returns-then-last-longest_item g c =
    let list = g.T.ListTask.rules (g.T.ListTask.plan c.args.task.now) in
    let last = c.args.last.now in
    let none = eqb-true _ _ (sym c.is_empty.ensures ∙ c.if-is_empty.true) in
    let empty : c.args.begun.now.items ≡ [] = nil_from_length c.args.begun.now.items (sym c.args.begun.now.ok.0 ∙ none) in
    let short : length last ≤ list.longest = omega (arith, c.longest_item.ensures, c.if-last-longest_item.true) in
    let written = c.write_at.ensures in record {
      ok = on_ok_weaker c.write_at.result
          (λ text. (
            text.0,
            subst (λ x. IsEntry (passing (g.N.Rejections.passed c.write_at.new.rejections) list) (x ++ last, text.0)) (sym empty) (record { whole = c.requires.whole; short = short; text = text.1.0 }),
            text.1.1,
          ))
          written.ok;
      none = OnOk-from c.write_at.result empty;
      fault = subst (λ x. IfErr c.write_at.result (λ fault. IsFaultAt list c.args.number (x ++ last) fault)) (sym empty) written.fault;
      unchanged = written.unchanged;
      more = written.more;
      ends = written.ends;
      plan = written.plan;
    }

pub returns-in-Err : goal.returns-in-Err
returns-in-Err g c =
    let list = g.T.ListTask.rules (g.T.ListTask.plan c.args.task.now) in record {
      ok = tt;
      none = tt;
      fault = of_kept list c.args.number (c.args.begun.now.items ++ c.args.last.now) c.in-Err.fault c.in-Err.ensures.fault;
      unchanged = refl;
      more = omega arith;
      ends = ends_any g.N.Rejections.stops c.in-Err.fault c.in-Err.ensures.ends;
      plan = refl;
    }

pub returns-in-Err-write_at : goal.returns-in-Err-write_at
returns-in-Err-write_at g c =
    let list = g.T.ListTask.rules (g.T.ListTask.plan c.args.task.now) in
    let whole = c.deref.ensures.value ∙ c.in-Ok.ensures.kept in
    let written = c.in-Err-write_at.ensures in record {
      ok = tt;
      none = tt;
      fault = subst (λ x. IsFaultAt list c.args.number x c.in-Err-write_at.fault) whole written.fault;
      unchanged = written.unchanged;
      more = written.more;
      ends = written.ends;
      plan = written.plan;
    }

pub returns : goal.returns
returns g c =
    let list = passing (g.N.Rejections.passed c.write_at-2.new.rejections) (g.T.ListTask.rules (g.T.ListTask.plan c.args.task.now)) in
    let kept = c.in-Ok.ensures.kept in
    let written = c.in-Ok-write_at.ensures in
    let text = written.ok in record {
      ok = (
        text.0,
        record {
          whole = lacks-append list.end c.args.begun.now.items c.args.last.now c.requires.begun.whole c.requires.whole;
          short = subst (λ x. length x ≤ list.longest) kept c.in-Ok.ensures.short;
          text = subst (λ x. list.is_text x text.0) (c.deref.ensures.value ∙ kept) text.1.0;
        },
        text.1.1,
      );
      none = c.clear.ensures.items;
      fault = tt;
      unchanged = tt;
      more = written.more;
      ends = tt;
      plan = written.plan;
    }
