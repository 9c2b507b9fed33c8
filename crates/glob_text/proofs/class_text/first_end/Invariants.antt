use Rattle.std.proofs.Common.{◌≡◌, length, false}
use Rattle.glob_text.specs.ClassSteps.{first_end}
use Rattle.glob_text.proofs.class_text.first_end.Given as goal

abbrev pub invariant-loop-symbol : goal.invariant-loop-symbol
invariant-loop-symbol l = first_end false l.text ≡ first_end l.after_colon l.left

abbrev pub decreases-loop-symbol : goal.decreases-loop-symbol
decreases-loop-symbol l = length l.left
