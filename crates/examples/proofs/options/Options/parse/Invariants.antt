use Rattle.os_args.specs.Joining.{all_left, weight}
use Rattle.os_args.specs.Views.{reading}
use Rattle.examples.proofs.options.Options.parse.Given as goal

abbrev pub decreases-loop-options : goal.decreases-loop-options
decreases-loop-options g l = weight (all_left (reading l.arguments))
