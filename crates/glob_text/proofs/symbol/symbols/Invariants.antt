use Rattle.std.proofs.Common.{◌≤◌, length}
use Rattle.glob_text.specs.Symbols.{IsSymbol}
use Rattle.wildcards.specs.Items.{Reads}
use Rattle.glob_text.proofs.symbol.symbols.Given as goal

abbrev pub invariant-loop-left : goal.invariant-loop-left
invariant-loop-left g l = Reads (IsSymbol g.L.Letters.formed g.L.Letters.letters l.text) l.text l.symbols.items l.left × (g.L.Letters.formed l.left × (length l.left ≤ length l.text))

abbrev pub decreases-loop-left : goal.decreases-loop-left
decreases-loop-left g l = length l.left
