use Rattle.std.proofs.Common.{◌≡◌, ◌++◌, ◌+◌, ◌*◌, ◌≤◌, take, drop, length}
use Rattle.platform_str.specs.ToWide.{chosen}
use Rattle.platform_str.proofs.to_wide.put_chosen.Given as goal

abbrev pub invariant-loop-i : goal.invariant-loop-i
invariant-loop-i l =
    (length l.units ≡ length l.fn.units) × (l.end ≤ l.at + 4 * l.i) × (l.at ≤ l.end)
    × (drop (l.end + 4) l.units ≡ drop (l.end + 4) l.fn.units)
    × (take l.end l.units ++ chosen (drop (4 * l.i) l.lanes) l.left ≡ take l.at l.fn.units ++ chosen l.lanes l.mask)
    × (l.end + length (chosen (drop (4 * l.i) l.lanes) l.left) ≡ l.at + length (chosen l.lanes l.mask))
