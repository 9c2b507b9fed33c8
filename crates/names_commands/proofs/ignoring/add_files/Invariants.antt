use Rattle.std.proofs.Common.{◌-◌, length, map, drop}
use Rattle.os_ignore.specs.Ignores.{files_of}
use Rattle.names_commands.specs.Ignoring.{text_of}
use Rattle.names_commands.proofs.lemmas.Ignored.{AreReadSoFar}
use Rattle.names_commands.proofs.ignoring.add_files.Given as goal

abbrev pub invariant-loop-value : goal.invariant-loop-value
invariant-loop-value g l = AreReadSoFar l.fn.options.case_insensitive (g.F.Files.known l.fn.files) (map text_of l.fn.values) (drop l.added (map text_of l.fn.values)) l.added (files_of l.ignore)

abbrev pub decreases-loop-value : goal.decreases-loop-value
decreases-loop-value g l = length l.fn.values - l.added
