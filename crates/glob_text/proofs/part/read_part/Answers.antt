use Rattle.std.proofs.Common.{◌∙◌, ap, arith, length, map, refl, subst, sym}
use Rattle.std.proofs.lemmas.List.{nil_from_length}
use Rattle.glob_text.specs.Chosen.{mark_at, marks_at}
use Rattle.glob_text.specs.Marks.{mark_of}
use Rattle.glob_text.specs.Parts.{IsPiece}
use Rattle.wildcards.specs.Items.{Reads}
use Rattle.wildcards.proofs.lemmas.Items.{more_items}
use Rattle.glob_text.proofs.part.read_part.Goals as goal

pub loop-index-preserved : goal.loop-index-preserved
loop-index-preserved g c =
    let marks = map mark_of c.args.marks.now in
    let rest = marks_at marks c.in-Some.rest.now in
    let here = subst (λ z. IsPiece c.args.separators z c.in_ok-piece.piece rest) (sym (ap (marks_at marks) c.in-Some.ensures.cases.0))
    (sym c.is_separator_at.ensures ∙ c.if-is_separator_at.false, (c.in_ok-piece.ensures marks c.requires, refl)) in (
      subst (λ z. Reads (IsPiece c.args.separators) (marks_at marks c.args.text.now) z rest) (sym c.in_ok-push.ensures.items)
          (more_items (IsPiece c.args.separators) _ _ _ _ _ c.loop-index.invariant.0 here),
      let h = c.loop-index.invariant.1 in let e = ap length c.in-Some.ensures.cases.0 in omega (arith, h, e),
    )

pub returns-then-is_separator_at-clause-part : goal.returns-then-is_separator_at-clause-part
returns-then-is_separator_at-clause-part g c =
    let marks = map mark_of c.args.marks.now in
    record {
      left = marks_at marks c.loop-index.left.now;
      read = subst (λ z. Reads (IsPiece c.args.separators) (marks_at marks c.args.text.now) z.items (marks_at marks c.loop-index.left.now)) (sym c.in_ok-new.ensures) c.loop-index.invariant.0;
      ends = (mark_at marks c.in-Some.index.now, ap (marks_at marks) c.in-Some.ensures.cases.0, sym c.is_separator_at.ensures ∙ c.if-is_separator_at.true);
    }

pub returns-clause-part : goal.returns-clause-part
returns-clause-part g c =
    let marks = map mark_of c.args.marks.now in
    record {
      left = marks_at marks c.loop-index.left.now;
      read = subst (λ z. Reads (IsPiece c.args.separators) (marks_at marks c.args.text.now) z.items (marks_at marks c.loop-index.left.now)) (sym c.in_ok-new-2.ensures) c.loop-index.invariant.0;
      ends = ap (marks_at marks) (nil_from_length c.loop-index.left.now c.in_default.ensures.cases);
    }
