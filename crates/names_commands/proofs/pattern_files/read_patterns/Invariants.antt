use Rattle.std.proofs.Common.{◌-◌, length, map, drop}
use Rattle.names_commands.specs.Ignoring.{text_of}
use Rattle.names_commands.specs.PatternFiles.{pattern_line}
use Rattle.names_commands.proofs.lemmas.PatternFiles.{AreReadSoFar}
use Rattle.names_commands.proofs.pattern_files.read_patterns.Given as goal

abbrev pub invariant-loop-name : goal.invariant-loop-name
invariant-loop-name g l = AreReadSoFar (g.F.Files.known l.fn.files) (map text_of l.fn.names) l.read (drop l.read (map text_of l.fn.names)) (map pattern_line l.patterns.items)

abbrev pub decreases-loop-name : goal.decreases-loop-name
decreases-loop-name g l = length l.fn.names - l.read
