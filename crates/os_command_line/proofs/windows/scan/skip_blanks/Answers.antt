use Rattle.os_command_line.proofs.lemmas.WindowsScan.{blank_passed}
use Rattle.os_command_line.proofs.windows.scan.skip_blanks.Goals as goal

pub loop-byte-preserved : goal.loop-byte-preserved
loop-byte-preserved c = blank_passed c.args.line.now c.loop-byte.rest.now c.in-Some.byte.now c.in-Some.after.now c.loop-byte.invariant c.in-Some.ensures.cases.0 (c.is_blank.ensures.0 c.if-not-is_blank.false)
