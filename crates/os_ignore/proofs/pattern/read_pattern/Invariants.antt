use Rattle.std.proofs.Common.{Some}
use Rattle.os_ignore.specs.Components.{left_size}
use Rattle.os_ignore.specs.PatternText.{NextGroup, text_of}
use Rattle.wildcards.specs.Items.{ReadsLists}
use Rattle.os_ignore.proofs.pattern.read_pattern.Given as goal

abbrev pub invariant-loop-left : goal.invariant-loop-left
invariant-loop-left g l = ReadsLists (NextGroup l.fn.folds) (Some l.fn.text) l.pattern.items (text_of l.left)

abbrev pub decreases-loop-left : goal.decreases-loop-left
decreases-loop-left g l = left_size l.left
