use Rattle.std.proofs.Common.{◌≤◌, [], false, length, refl, sym, subst}
use Rattle.os_ignore.proofs.lemmas.Nameless.{nameless}
use Rattle.os_ignore.proofs.class_text.ends_name.Goals as goal

pub returns-then-letters-nameless-clause-value : goal.returns-then-letters-nameless-clause-value
returns-then-letters-nameless-clause-value c = sym (c.requires [] c.args.letters.now refl c.if-letters-nameless.true)

pub returns-in-Some-clause-nameless : goal.returns-in-Some-clause-nameless
returns-in-Some-clause-nameless c =
    λ front ys e l.
    nameless false c.args.letters.now c.in-Some.ensures.0 front ys e (subst (λ z. length z ≤ length ys) c.in-Some.ensures.1 l)
