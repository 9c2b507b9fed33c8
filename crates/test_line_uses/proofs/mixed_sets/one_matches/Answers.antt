use Rattle.std.proofs.Common.{map}
use Rattle.glob_patterns.specs.MixedSets.{glob_of}
use Rattle.test_line_uses.proofs.mixed_sets.one_matches.Goals as goal

pub returns : goal.returns
returns g c = c.is_match.ensures.texts (map glob_of c.args.globs.now) c.in_ok-set.ensures.sets
