use Rattle.std.proofs.Common.{sym, subst, arith}
use Rattle.os_ignore.specs.PatternText.{IsPiece, IsBrokenHere}
use Rattle.wildcards.specs.Items.{Reads}
use Rattle.wildcards.proofs.lemmas.Items.{more_items}
use Rattle.os_ignore.proofs.pattern.read_part.Goals as goal

pub returns-in_default-2-clause-part : goal.returns-in_default-2-clause-part
returns-in_default-2-clause-part g c =
    let broken = rw c.in_default-2.is at c.in_ok-piece.ensures.piece in
    record {
      pieces = c.loop-first.pieces.items;
      left = c.loop-first.left.now;
      read = c.loop-first.invariant.0;
      broken = subst IsBrokenHere (sym c.in-Some.ensures.cases.0) broken;
    }

pub loop-first-preserved : goal.loop-first-preserved
loop-first-preserved g c =
    let piece = rw c.in-Some-2.is at c.in_ok-piece.ensures.piece in
    let shorter = rw c.in-Some-2.is at c.in_ok-piece.ensures.shorter in
    let here = subst (λ z. IsPiece c.args.folds z c.in-Some-2.piece c.in-Some-2.after.now) (sym c.in-Some.ensures.cases.0) (c.if-first-eq47.false, piece) in (
      subst (λ z. Reads (IsPiece c.args.folds) c.args.text.now z c.in-Some-2.after.now) (sym c.in_ok-push.ensures.items) (more_items (IsPiece c.args.folds) _ _ _ _ _ c.loop-first.invariant.0 here),
      let h = c.loop-first.invariant.1 in let k = c.in-Some.ensures.cases.1 in omega arith,
    )
