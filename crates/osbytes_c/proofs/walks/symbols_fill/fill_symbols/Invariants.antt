use Rattle.std.proofs.Common.{◌≤◌, ◌-◌, List, false, length}
use Rattle.osbytes_c.specs.declared.walks.symbols_fill.SymbolView.{SymbolView}
use Rattle.osbytes_c.specs.Fills.{GiveInOrder, IsFilled}
use Rattle.osbytes_c.specs.SymbolFills.{IsSymbolStep, ShowsSymbol}
use Rattle.osbytes_c.proofs.walks.symbols_fill.fill_symbols.Given as goal

-- the symbols so far, and from where the others are
abbrev pub invariant-loop-next : goal.invariant-loop-next
invariant-loop-next l =
    (items : List SymbolView) × (GiveInOrder (IsSymbolStep l.platform l.bytes) (ShowsSymbol l.address) (λ step. step.end) (λ step. false) l.at items false l.next
    × (IsFilled items l.fn.out l.out l.count × (l.next ≤ length l.bytes)))

abbrev pub decreases-loop-next : goal.decreases-loop-next
decreases-loop-next l = length l.initial.out - l.count
