use Rattle.wtf8_core.proofs.lemmas.vectors.Windows.{near_start}
use Rattle.wtf8_core.proofs.vectors.scan.ends_with_high_surrogate.Goals as goal

pub returns-then-at-lt3 : goal.returns-then-at-lt3
returns-then-at-lt3 c f = near_start c.args.bytes.now c.args.at f c.if-at-lt3.true
