use Rattle.std.proofs.Common.{◌≡◌, ◌++◌, map, length}
use Rattle.os_ignore.proofs.file.line_tags.Given as goal

abbrev pub invariant-loop-line : goal.invariant-loop-line
invariant-loop-line g l = l.tags.items ++ map (λ line. line.tag) l.left ≡ map (λ line. line.tag) l.lines

abbrev pub decreases-loop-line : goal.decreases-loop-line
decreases-loop-line g l = length l.left
