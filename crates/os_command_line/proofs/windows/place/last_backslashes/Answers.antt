use Rattle.os_command_line.proofs.lemmas.WindowsAtQuote.{run_at}
use Rattle.os_command_line.proofs.windows.place.last_backslashes.Goals as goal

pub returns-then-last-ne92 : goal.returns-then-last-ne92
returns-then-last-ne92 c = run_at c.args.text.now c.loop-last.count c.loop-last.rest.now c.loop-last.invariant.0 c.in-Some.before.now c.in-Some.last.now c.in-Some.ensures.cases.0 c.if-last-ne92.true
