use Rattle.std.proofs.Common.{⊎_elim, arith, subst}
use Rattle.glob_text.specs.Alternatives.{AreWithinLimits}
use Rattle.test_line_uses.proofs.written_out.within_limits.Goals as goal

pub returns : goal.returns
returns c = λ marks choices are limits many.
    let within = subst AreWithinLimits (c.written_once.ensures marks choices many.choices are many.are) limits in
    let few = within.choices in
    ⊎_elim (λ l. omega (arith, l, few)) (λ l. let marks = within.marks l.0 in let more = l.1 in omega (arith, marks, more)) many.many
