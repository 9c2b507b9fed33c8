use Rattle.wtf8_core.proofs.{Common.take_rest, Common.common_steps, Common.rules, lemmas.vectors.Windows.more_inside}
use Rattle.wtf8_core.proofs.vectors.scan.scan_steps.Goals as goal

pub loop-preserved : goal.loop-preserved
loop-preserved c = search (rules, common_steps, more_inside, take_rest, c.allowed_in_step-kept.ensures, c.if-bytes-end-lt-STEP.false, c.if-end-lt-BEFORE.false)
