use Rattle.std.proofs.Common.{ap, arith, length, length-append}
use Rattle.os_command_line.proofs.lemmas.WindowsScan.{first_part, next_part, last_part}
use Rattle.os_command_line.proofs.windows.scan.after_argument.Goals as goal

pub loop-after-init : goal.loop-after-init
loop-after-init c = first_part c.args.text.now _ _ c.cut_part-cut.ensures

pub loop-after-preserved : goal.loop-after-preserved
loop-after-preserved c =
    let cut = c.loop-after.cut in
    next_part c.args.text.now c.loop-after.inside c.loop-after.is_bare cut.0.now cut.1.now c.loop-after.invariant c.last_backslashes.result c.last_backslashes.ensures c.in-Some.after.now c.in-Some.ensures c.after_quote-next.result.0 c.after_quote-next.result.1.now c.after_quote-next.ensures _ _
    c.cut_part-cut-in-Some.ensures

pub loop-after-smaller : goal.loop-after-smaller
loop-after-smaller c =
    let next = c.cut_part-cut-in-Some in
    omega (arith, ap length c.in-Some.ensures, c.after_quote-next.ensures.shorter, ap length next.ensures.joined, length-append next.result.0.now next.result.1.now)

pub returns : goal.returns
returns c = last_part c.args.text.now c.loop-after.inside c.loop-after.is_bare c.loop-after.cut.0.now c.loop-after.cut.1.now c.loop-after.invariant c.in_default.ensures
