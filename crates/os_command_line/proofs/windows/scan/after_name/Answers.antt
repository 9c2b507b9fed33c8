use Rattle.std.proofs.Common.{ap, arith, length, length-append}
use Rattle.os_command_line.proofs.lemmas.WindowsScan.{first_of_name, next_of_name, last_of_name}
use Rattle.os_command_line.proofs.windows.scan.after_name.Goals as goal

pub loop-after-init : goal.loop-after-init
loop-after-init c = first_of_name c.args.line.now _ _ c.cut_part-cut.ensures

pub loop-after-preserved : goal.loop-after-preserved
loop-after-preserved c = next_of_name c.args.line.now c.loop-after.inside c.loop-after.cut.1.now c.in-Some.after.now c.loop-after.invariant c.in-Some.ensures _ _ c.cut_part-cut-in-Some.ensures

pub loop-after-smaller : goal.loop-after-smaller
loop-after-smaller c =
    let next = c.cut_part-cut-in-Some in
    omega (arith, ap length c.in-Some.ensures, ap length next.ensures.joined, length-append next.result.0.now next.result.1.now)

pub returns : goal.returns
returns c = last_of_name c.args.line.now c.loop-after.inside c.loop-after.cut.1.now c.loop-after.invariant c.in_default.ensures
