use Rattle.os_quote.proofs.{Common.arith, lemmas.Suspects.some_more, lemmas.Suspects.one_more}
use Rattle.os_quote.proofs.find_hidden.later_suspect.Goals as goal

pub loop-at-init : goal.loop-at-init
loop-at-init c = (omega arith, omega (arith, c.clear_of_short.ensures.within), c.clear_of_short.ensures.clear)

pub returns-then-is_suspect_at : goal.returns-then-is_suspect_at
returns-then-is_suspect_at c = grind (arith, some_more)

pub loop-at-preserved : goal.loop-at-preserved
loop-at-preserved c = grind (arith, one_more)

pub loop-at-preserved-then-clear-eq-BLOCK : goal.loop-at-preserved-then-clear-eq-BLOCK
loop-at-preserved-then-clear-eq-BLOCK c =
    (omega (arith, c.loop-at.invariant.0), omega (arith, c.clear_from-clear.ensures.within), some_more c.args.bytes.now _ _ _ c.loop-at.invariant.2 c.clear_from-clear.ensures.clear)
