use Rattle.os_args.specs.Joining.{all_left, weight}
use Rattle.os_args.specs.Views.{reading}
use Rattle.bench_exports.proofs.arguments.port_options.Given as goal

abbrev pub decreases-loop-word : goal.decreases-loop-word
decreases-loop-word l = weight (all_left (reading l.arguments))
