use Rattle.std.proofs.Common.{◌≡◌, length, false}
use Rattle.os_ignore.specs.ClassText.{ends_name}
use Rattle.os_ignore.specs.ClassSteps.{from_bracket}
use Rattle.os_ignore.proofs.class_text.nameless_end.Given as goal

abbrev pub invariant-loop-letter : goal.invariant-loop-letter
invariant-loop-letter l = record {
  name : ends_name false l.letters ≡ ends_name l.after_colon l.left;
  end : from_bracket l.letters ≡ from_bracket l.left;
}

abbrev pub decreases-loop-letter : goal.decreases-loop-letter
decreases-loop-letter l = length l.left
