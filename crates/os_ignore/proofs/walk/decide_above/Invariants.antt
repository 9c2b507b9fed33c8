use Rattle.std.proofs.Common.{take}
use Rattle.std.specs.List.{All}
use Rattle.os_ignore.specs.Above.{IsDecided, IsIn}
use Rattle.os_ignore.specs.Links.{IsUpTo}
use Rattle.os_ignore.proofs.walk.decide_above.Given as goal

abbrev pub invariant-loop-end : goal.invariant-loop-end
invariant-loop-end g l = record {
  decided : All (IsDecided l.files l.path) l.above.items;
  last : IsIn l.files (take l.end l.path) l.last;
  above : IsUpTo (take l.end l.path) l.files l.count;
}
