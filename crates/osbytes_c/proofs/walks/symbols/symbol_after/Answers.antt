use Rattle.std.proofs.Common.{◌≤◌, length, length-drop, sym, subst, arith}
use Rattle.osbytes_c.specs.Faults.{IsString}
use Rattle.osbytes_c.specs.Steps.{IsFirstOf, StartsWithSymbol}
use Rattle.osbytes_c.proofs.lemmas.Symbols.{starts_from, step_from}
use Rattle.osbytes_c.proofs.walks.symbols.symbol_after.Goals as goal

pub returns-clause-symbol : goal.returns-clause-symbol
returns-clause-symbol c =
    let p = c.args.platform in
    let s = c.args.bytes.now in
    let at = c.args.at in
    let step = c.in-Some.first in
    let back = c.split_at.ensures.back in
    let less = c.requires.within in
    let within = c.in-Some.ensures.within in
    let long = subst (λ b. step.end ≤ length b) back within.1 in
    record {
      symbol = λ w. step_from p s at step (omega (arith, less)) (subst (λ b. IsFirstOf p b step) back (c.in-Some.ensures.first (subst (IsString p) (sym back) w)));
      first = starts_from p s at step (subst (λ b. StartsWithSymbol p b step) back c.in-Some.ensures.starts);
      some = let some = within.0 in omega (arith, some);
      within = omega (arith, long, length-drop at s, less);
    }
