use Rattle.std.proofs.Common.{rules}
use Rattle.glob_patterns.specs.Globs.{text_of}
use Rattle.test_line_uses.proofs.SameGlobs.{both, same_bytes, same_options}
use Rattle.test_line_uses.proofs.globs.are_same.Goals as goal

pub returns : goal.returns
returns g c = both _ _ _ _ _ c.eq.ensures (same_options c.args.glob.now.options c.args.other.now.options _ (search rules)) (same_bytes (text_of c.args.glob.now) (text_of c.args.other.now))
