use Rattle.std.proofs.Common.{false, [], ◌∷◌, ◌++◌, arith}
use Rattle.osbytes_c.specs.SymbolFills.{IsSymbolStep, ShowsSymbol}
use Rattle.osbytes_c.proofs.lemmas.Fills.{one_more_filled, one_more_given}
use Rattle.osbytes_c.proofs.lemmas.SymbolFills.{unstring_before}
use Rattle.osbytes_c.proofs.walks.symbols_fill.fill_symbols.Goals as goal

pub returns-in_default-clause-fills : goal.returns-in_default-clause-fills
returns-in_default-clause-fills c =
    let inv = c.loop-next.invariant in
    unstring_before c.args.platform c.args.bytes.now c.args.address c.args.at inv.0 c.loop-next.next inv.1.0 c.in_default.ensures.symbol

pub returns-in_default-clause-stuck : goal.returns-in_default-clause-stuck
returns-in_default-clause-stuck c =
    let inv = c.loop-next.invariant in
    let filled = inv.1.1.0 in
    record {
      items = inv.0;
      next = c.loop-next.next;
      are = inv.1.0;
      fewer = omega (arith, filled.count_is, filled.same_length, c.if-count-out.true);
      within = c.loop-next-test.true;
      none = c.in_default.ensures.none;
    }

pub loop-next-preserved : goal.loop-next-preserved
loop-next-preserved c =
    let s = c.args.bytes.now in
    let inv = c.loop-next.invariant in
    let next = c.loop-next.next in
    let step = c.in-Some.step in
    let is : IsSymbolStep c.args.platform s next step = c.in-Some.ensures.symbol in
    let view = c.write_symbol.new.out in (
      inv.0 ++ view ∷ [],
      (
        one_more_given (IsSymbolStep c.args.platform s) (ShowsSymbol c.args.address) (λ step. step.end) (λ step. false) c.args.at inv.0 next step view inv.1.0 is c.in-Some.ensures.shown,
        (one_more_filled inv.0 c.args.out.now c.loop-next.out c.loop-next.count view inv.1.1.0 c.if-count-out.true, is.within),
      ),
    )
