use Rattle.std.proofs.Common.{sym, subst}
use Rattle.wildcards.specs.Keys.{IsNeeded}
use Rattle.wildcards.specs.Small.{IsNeededBy}
use Rattle.wildcards.proofs.lemmas.Keys.{some_weaker}
use Rattle.wildcards.proofs.lemmas.Small.{needed_small, needed_exact, ok_weaker}
use Rattle.wildcards.proofs.filter.key_by.Goals as goal

pub returns-then-folds : goal.returns-then-folds
returns-then-folds g c =
    let o = c.args.options in
    let pieces = c.args.pieces.now in
    ok_weaker _ _ c.key_of.result
    (λ key h. some_weaker _ _ key
    (λ k n. subst (λ v. IsNeededBy v o pieces k.kind k.size k.text.items) (sym c.if-folds.true)
    (needed_small o pieces c.in_ok-small.small.items k.kind k.size k.text.items c.in_ok-small.ensures (subst (λ z. IsNeeded o z k.kind k.size k.text.items) c.deref.ensures.value n)))
    h)
    c.key_of.ensures

pub returns : goal.returns
returns g c =
    let o = c.args.options in
    let pieces = c.args.pieces.now in
    ok_weaker _ _ c.key_of-2.result
    (λ key h. some_weaker _ _ key
    (λ k n. subst (λ v. IsNeededBy v o pieces k.kind k.size k.text.items) (sym c.if-folds.false) (needed_exact o pieces k.kind k.size k.text.items n))
    h)
    c.key_of-2.ensures
