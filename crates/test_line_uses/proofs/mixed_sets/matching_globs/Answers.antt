use Rattle.std.proofs.Common.{map}
use Rattle.glob_patterns.specs.MixedSets.{glob_of}
use Rattle.test_line_uses.proofs.mixed_sets.matching_globs.Goals as goal

pub returns-clause-found : goal.returns-clause-found
returns-clause-found g c = c.in_ok-matches.ensures.texts (map glob_of c.args.globs.now) c.in_ok-set.ensures.sets

pub returns-clause-ascending : goal.returns-clause-ascending
returns-clause-ascending g c = c.in_ok-matches.ensures.value.ascends
