use Rattle.std.proofs.Common.{rules}
use Rattle.test_uses.proofs.units.equal_by_units.Goals as goal

pub returns : goal.returns
returns c =
    let same = c.encoding.ensures.units_once _ _ _ c.requires.first c.requires.second in
    search (rules, same)
