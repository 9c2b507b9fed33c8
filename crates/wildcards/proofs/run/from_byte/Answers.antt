use Rattle.std.proofs.lemmas.List.{nil_from_length}
use Rattle.wildcards.proofs.lemmas.Skips.{not_first, here, nowhere}
use Rattle.wildcards.proofs.run.from_byte.Goals as goal

pub loop-first-preserved : goal.loop-first-preserved
loop-first-preserved c = not_first _ _ _ c.loop-first.invariant _ _ c.in-Some.ensures.cases.0 c.if-first-byte.false

pub returns-then-first-byte : goal.returns-then-first-byte
returns-then-first-byte c = here _ _ _ c.loop-first.invariant _ _ c.in-Some.ensures.cases.0 c.if-first-byte.true

pub returns : goal.returns
returns c = nowhere _ _ _ c.loop-first.invariant (nil_from_length _ c.in_default.ensures.cases)
