use Rattle.std.proofs.Common.{◌≤◌, ◌-◌, List, false, length}
use Rattle.osbytes_c.specs.declared.walks.view.View.{View}
use Rattle.osbytes_c.specs.Fills.{IsFilled, LastPieceViews}
use Rattle.osbytes_c.proofs.walks.split_fill.fill_from_end.Given as goal

-- the pieces so far, and from where the others are
abbrev pub invariant-loop-count : goal.invariant-loop-count
invariant-loop-count l =
    (items : List View) × (LastPieceViews l.pattern l.bytes l.address l.at items false l.next
    × (IsFilled items l.fn.out l.out l.count × (l.next ≤ length l.bytes)))

abbrev pub decreases-loop-count : goal.decreases-loop-count
decreases-loop-count l = length l.initial.out - l.count
