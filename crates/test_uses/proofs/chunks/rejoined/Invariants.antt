use Rattle.std.proofs.Common.{◌≡◌, ◌++◌}
use Rattle.wtf8_core.specs.Chunks.{joined}
use Rattle.platform_str.specs.Strings.{bytes}
use Rattle.test_uses.proofs.chunks.rejoined.Given as goal

abbrev pub invariant-loop-part : goal.invariant-loop-part
invariant-loop-part g l = l.all.items ++ joined l.part-iterator ≡ bytes l.fn.string
