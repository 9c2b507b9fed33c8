use Rattle.std.proofs.Common.{List, [], drop, refl, sym, subst, append-nil}
use Rattle.os_str_ext.specs.Symbols.{AreSymbols}
use Rattle.os_str_ext.specs.declared.symbols.Symbol.{Symbol}
use Rattle.osbytes_c.specs.Fills.{IsLeft}
use Rattle.osbytes_c.specs.Platforms.{units_on}
use Rattle.osbytes_c.specs.SymbolFills.{AreReported}
use Rattle.osbytes_c.proofs.uses.fills.symbols_in.Goals as goal

pub returns-then-filled : goal.returns-then-filled
returns-then-filled c = λ w.
    let s = c.args.bytes.now in
    let units = units_on c.args.platform in
    let filled = c.osb_core_symbols_fill.new.filled in
    let fills = c.osb_core_symbols_fill.ensures.symbols c.if-osb_core_symbols_fill-eq-DONE.true in
    let left : List Symbol = [] in
    let none : IsLeft filled.ended left (AreSymbols units (drop filled.next s) left) = subst (λ e. IsLeft e left (AreSymbols units (drop filled.next s) left)) (sym c.if-filled.true) refl in
    let found = c.filled_symbols.ensures c.args.platform s 0 0 fills.items filled.ended filled.next fills.are w left none in
    (found.0, (subst (AreReported found.0) (sym fills.written.prefix) found.1.0, subst (AreSymbols units s) (append-nil found.0) found.1.1))
