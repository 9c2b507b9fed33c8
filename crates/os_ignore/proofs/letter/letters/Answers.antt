use Rattle.std.proofs.Common.{sym, subst}
use Rattle.os_ignore.specs.Letters.{IsLetter}
use Rattle.wildcards.specs.Items.{Reads}
use Rattle.wildcards.proofs.lemmas.Items.{more_items}
use Rattle.os_ignore.proofs.letter.letters.Goals as goal

pub loop-first-preserved : goal.loop-first-preserved
loop-first-preserved g c =
    let whole = c.in-Some.ensures.cases.0 in
    let letter = subst (λ z. IsLetter z c.in-Some-first_letter.letter c.in-Some-first_letter.after.now) (sym whole) c.in-Some-first_letter.ensures.letter in
    subst (λ z. Reads IsLetter c.args.text.now z c.in-Some-first_letter.after.now) (sym c.in_ok-push.ensures.items) (more_items IsLetter _ _ _ _ _ c.loop-first.invariant letter)
