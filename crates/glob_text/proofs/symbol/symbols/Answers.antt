use Rattle.std.proofs.Common.{sym, subst, arith}
use Rattle.wildcards.specs.Items.{Reads}
use Rattle.glob_text.specs.Symbols.{IsSymbol}
use Rattle.wildcards.proofs.lemmas.Items.{more_items}
use Rattle.glob_text.proofs.symbol.symbols.Goals as goal

pub loop-left-preserved : goal.loop-left-preserved
loop-left-preserved g c =
    let Item = IsSymbol g.L.Letters.formed g.L.Letters.letters c.args.text.now in
    let h = c.loop-left.invariant.1.1 in
    let k = c.split_first-letter.ensures.shorter in
    let rest = c.split_first-letter.result.1.now in (
      subst (λ z. Reads Item c.args.text.now z rest) (sym c.in_ok-push.ensures.items)
          (more_items Item _ _ _ _ _ c.loop-left.invariant.0 (record { letter = c.split_first-letter.ensures; index = omega (arith, h) })),
      (c.split_first-letter.ensures.formed_after, omega (arith, h, k)),
    )
