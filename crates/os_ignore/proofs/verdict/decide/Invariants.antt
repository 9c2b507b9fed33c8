use Rattle.std.proofs.Common.{take}
use Rattle.os_ignore.specs.Links.{IsUpTo}
use Rattle.os_ignore.specs.Verdicts.{AreShown}
use Rattle.os_ignore.proofs.verdict.decide.Given as goal

abbrev pub invariant-loop-at : goal.invariant-loop-at
invariant-loop-at g l = AreShown l.files l.path l.at × IsUpTo (take l.at l.path) l.files l.above
