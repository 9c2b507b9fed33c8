use Rattle.std.proofs.Common.{[], ◌∷◌}
use Rattle.test_path_uses.proofs.common_bases.base_found_twice.Goals as goal

pub returns : goal.returns
returns c = c.one_result.ensures.common c.args.style (c.args.path.now ∷ c.args.other.now ∷ []) _ _ c.in_ok-once.ensures.ok c.in_ok-twice.ensures.ok
