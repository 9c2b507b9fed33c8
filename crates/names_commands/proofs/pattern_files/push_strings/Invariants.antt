use Rattle.std.proofs.Common.{map, length}
use Rattle.os_str_bytes.specs.Strings.{bytes}
use Rattle.names_commands.specs.PatternFiles.{pattern_line}
use Rattle.names_commands.proofs.lemmas.PatternFiles.{AreStringsSoFar}
use Rattle.names_commands.proofs.pattern_files.push_strings.Given as goal

abbrev pub invariant-loop-pattern : goal.invariant-loop-pattern
invariant-loop-pattern g l = AreStringsSoFar g.E.Platform (map pattern_line l.patterns) (map bytes l.fn.strings.items) (map pattern_line l.left) (map bytes l.strings.items)

abbrev pub decreases-loop-pattern : goal.decreases-loop-pattern
decreases-loop-pattern g l = length l.left
