use Rattle.wtf8_core.proofs.Common.{eqb-true, eq-eqb}
use Rattle.wtf8_core.proofs.lemmas.units.{PrefixTests.never, FirstAndLast.one_last, FirstAndLast.surrogate_last, FirstAndLast.no_low_suffix}
use Rattle.wtf8_core.proofs.halves.ends_with_low.Goals as goal

pub returns-in-Some : goal.returns-in-Some
returns-in-Some c =
    let u = surrogate_last c.args.string.now _ c.in-Some.c c.requires.string c.in-Some.ensures.0 c.in-Some.ensures.1 in
    let w = one_last u.0 _ c.in-Some.c c.args.low u.1 in
    (λ t. w.0 (eqb-true c.in-Some.c c.args.low t), λ f. eq-eqb c.in-Some.c c.args.low (w.1 f))

pub returns-in-None : goal.returns-in-None
returns-in-None c = never _ (no_low_suffix c.args.string.now c.args.low c.requires.string c.requires.low c.in_default.ensures c.in-None.ensures)
