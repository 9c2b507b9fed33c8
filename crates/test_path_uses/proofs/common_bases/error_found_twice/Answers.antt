use Rattle.std.proofs.Common.{[], ◌∷◌}
use Rattle.test_path_uses.proofs.common_bases.error_found_twice.Goals as goal

pub returns : goal.returns
returns c = c.one_fault.ensures.common c.args.style (c.args.path.now ∷ c.args.other.now ∷ []) _ _ c.in-Err.ensures.err c.in-Err-common_base.ensures.err
