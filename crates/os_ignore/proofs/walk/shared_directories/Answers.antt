use Rattle.std.proofs.Common.{◌≤◌}
use Rattle.std.proofs.lemmas.List.Elements.{All-more}
use Rattle.os_ignore.proofs.walk.shared_directories.Goals as goal

pub loop-count-preserved : goal.loop-count-preserved
loop-count-preserved c = All-more (λ directory. directory.start ≤ c.args.shared) c.args.above.now c.loop-count.count _ c.loop-count-test.true c.loop-count.invariant c.if-directory-shared.false
