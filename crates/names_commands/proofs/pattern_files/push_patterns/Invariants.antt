use Rattle.std.proofs.Common.{map, length}
use Rattle.names_commands.specs.PatternFiles.{pattern_line}
use Rattle.names_commands.proofs.lemmas.PatternFiles.{AreAppended}
use Rattle.names_commands.proofs.pattern_files.push_patterns.Given as goal

abbrev pub invariant-loop-first : goal.invariant-loop-first
invariant-loop-first g l = AreAppended l.fn.file l.fn.end l.fn.content (map pattern_line l.fn.patterns.items) l.line l.left (map pattern_line l.patterns.items)

abbrev pub decreases-loop-first : goal.decreases-loop-first
decreases-loop-first g l = length l.left
