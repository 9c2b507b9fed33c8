use Rattle.std.proofs.Common.{take}
use Rattle.os_ignore.specs.Links.{IsUpTo}
use Rattle.os_ignore.proofs.directory.files_above.Given as goal

abbrev pub invariant-loop-at : goal.invariant-loop-at
invariant-loop-at g l = IsUpTo (take l.at l.path) l.files l.above
