use Rattle.std.proofs.Common.{◌+◌, take, subst, sym}
use Rattle.std.specs.List.{All}
use Rattle.std.proofs.lemmas.List.{take_all}
use Rattle.std.proofs.lemmas.List.Elements.{All-push}
use Rattle.os_ignore.specs.Above.{IsDecided, IsIn}
use Rattle.os_ignore.specs.Links.{IsUpTo}
use Rattle.os_ignore.proofs.lemmas.Above.{decided_at, in_some, in_more}
use Rattle.os_ignore.proofs.lemmas.Links.{up_to_in, up_to_more}
use Rattle.os_ignore.proofs.walk.decide_above.Goals.{then-path-end-eq47+in_ok-push, else-path-end-eq47}
use Rattle.os_ignore.proofs.walk.decide_above.Goals as goal

pub loop-end-init : goal.loop-end-init
loop-end-init g c =
    let start = c.last_of-start.ensures c.args.path.now (subst (All (IsDecided c.args.files.now c.args.path.now)) (sym c.deref.ensures.value) c.requires.decided) in
    record { decided = c.requires.decided; last = start.0; above = start.1 }

pub loop-end-preserved : goal.loop-end-preserved
loop-end-preserved g c =
    let files = c.args.files.now in
    let path = c.args.path.now in
    let end = c.loop-end.end in
    let i = c.loop-end.invariant in
    elim c.if-path-end-eq47.branch [
      | then-path-end-eq47+in_ok-push w ↦ (
          let count = w.last_in-count.result in
          let above = up_to_in files path end c.loop-end.count c.loop-end-test.true i.above count w.if-path-end-eq47.true w.last_in-count.ensures in
          let here = decided_at files path end w.decide_in-verdict.result count w.if-path-end-eq47.true w.decide_in-verdict.ensures above in
          record {
            decided = subst (λ z. All (IsDecided files path) z.items) (sym w.above-is) (subst (All (IsDecided files path)) (sym w.in_ok-push.ensures.items) (All-push (IsDecided files path) c.loop-end.above.items _ i.decided here));
            last = subst (IsIn files (take (end + 1) path)) (sym w.last-is) (in_some files path _ here);
            above = subst (IsUpTo (take (end + 1) path) files) (sym w.count-is) above;
          }
          )
      | else-path-end-eq47 w ↦ (
          record {
            decided = subst (λ z. All (IsDecided files path) z.items) (sym w.above-is) i.decided;
            last = subst (IsIn files (take (end + 1) path)) (sym w.last-is) (in_more files path end c.loop-end.last c.loop-end-test.true w.if-path-end-eq47.false i.last);
            above = subst (IsUpTo (take (end + 1) path) files) (sym w.count-is) (up_to_more files path end c.loop-end.count c.loop-end-test.true i.above w.if-path-end-eq47.false);
          }
          )
    ]

pub returns-clause-last : goal.returns-clause-last
returns-clause-last g c =
    let whole = take_all c.loop-end.end c.args.path.now c.loop-end-test.false in (
      subst (λ z. IsIn c.args.files.now z c.loop-end.last) whole c.loop-end.invariant.last,
      subst (λ z. IsUpTo z c.args.files.now c.loop-end.count) whole c.loop-end.invariant.above,
    )
