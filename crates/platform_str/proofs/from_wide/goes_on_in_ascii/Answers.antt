use Rattle.platform_str.proofs.{Common.w16, Common.arith, Common.take, Common.drop, Common.length-drop, Common.length-take-le, lemmas.LaneTests.all_below_splat}
use Rattle.platform_str.proofs.from_wide.goes_on_in_ascii.Goals as goal

pub returns-then-units-gt16-clause-ascii : goal.returns-then-units-gt16-clause-ascii
returns-then-units-gt16-clause-ascii c =
    let rest = drop 1 c.args.units.now in
    all_below_splat w16 0x80 16 (take 16 rest) (length-take-le 16 rest (omega (arith, length-drop 1 c.args.units.now, c.if-units-gt16.true))) (omega arith)
