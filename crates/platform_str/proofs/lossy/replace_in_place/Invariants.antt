use Rattle.platform_str.proofs.Common.{◌-◌, length, IsReplacedUpTo}
use Rattle.platform_str.proofs.lossy.replace_in_place.Given as goal

abbrev pub invariant-loop-valid : goal.invariant-loop-valid
invariant-loop-valid g l = IsReplacedUpTo g.E.Platform.well_formed g.E.Platform.lossy l.fn.bytes l.bytes l.at

abbrev pub decreases-loop-valid : goal.decreases-loop-valid
decreases-loop-valid g l = length l.bytes - l.at
