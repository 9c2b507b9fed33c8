use Rattle.std.proofs.Common.{◌∷◌, ◌++◌, [], cond, sym, ap, ◌∙◌, append_assoc}
use Rattle.std.proofs.lemmas.List.{append-nil}
use Rattle.os_ignore.specs.Letters.{own_byte}
use Rattle.os_ignore.specs.Lines.{literal_prefix, after_literal}
use Rattle.os_ignore.proofs.lemmas.Tags.{nil_of_length}
use Rattle.os_ignore.proofs.line.read_literal.Goals as goal

pub returns-then-not-is_simple : goal.returns-then-not-is_simple
returns-then-not-is_simple g c =
    let items = c.loop-first.literal.items in
    let front = literal_prefix c.args.folds in
    let first = c.in-Some.first.now in
    let rest = c.in-Some.rest.now in
    let cut = c.in-Some.ensures.cases.0 in
    let byte = own_byte c.args.folds first in
    let stops = sym c.is_simple.ensures ∙ c.if-not-is_simple.true in
    let whole = c.loop-first.invariant.0 ∙ ap (λ z. items ++ front z) cut in
    let after = c.loop-first.invariant.1 ∙ ap after_literal cut in (
      sym (whole ∙ ap (λ v. items ++ cond v (byte ∷ front rest) []) stops ∙ append-nil items),
      cut ∙ sym (after ∙ ap (λ v. cond v (after_literal rest) (first ∷ rest)) stops),
    )

pub loop-first-preserved : goal.loop-first-preserved
loop-first-preserved g c =
    let items = c.loop-first.literal.items in
    let front = literal_prefix c.args.folds in
    let first = c.in-Some.first.now in
    let rest = c.in-Some.rest.now in
    let cut = c.in-Some.ensures.cases.0 in
    let byte = own_byte c.args.folds first in
    let goes = sym c.is_simple.ensures ∙ c.if-not-is_simple.false in
    let whole = c.loop-first.invariant.0 ∙ ap (λ z. items ++ front z) cut in
    let after = c.loop-first.invariant.1 ∙ ap after_literal cut in (
      whole ∙ ap (λ v. items ++ cond v (byte ∷ front rest) []) goes
          ∙ sym (append_assoc items (byte ∷ []) (front rest))
          ∙ ap (λ b. (items ++ b ∷ []) ++ front rest) (sym c.own_byte.ensures)
          ∙ ap (λ z. z ++ front rest) (sym c.in_ok-push.ensures.items),
      after ∙ ap (λ v. cond v (after_literal rest) (first ∷ rest)) goes,
    )

pub returns : goal.returns
returns g c =
    let items = c.loop-first.literal.items in
    let nil = nil_of_length c.loop-first.left.now c.in_default.ensures.cases in (
      sym (c.loop-first.invariant.0 ∙ ap (λ z. items ++ literal_prefix c.args.folds z) nil ∙ append-nil items),
      nil ∙ sym (c.loop-first.invariant.1 ∙ ap after_literal nil),
    )
