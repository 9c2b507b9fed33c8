use Rattle.test_path_uses.proofs.Both.{both}
use Rattle.test_path_uses.proofs.comparisons.ends.Goals as goal

pub returns : goal.returns
returns g c = λ items others are others_are. both c.ends_with.ensures (c.starts_and_ends.ensures.ends _ _ _ items others are others_are)
