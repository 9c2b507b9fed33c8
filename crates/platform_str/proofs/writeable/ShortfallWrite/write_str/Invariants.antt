use Rattle.std.proofs.Common.{◌≡◌, ◌-◌, length}
use Rattle.std.specs.Fmt.{char_count}
use Rattle.platform_str.proofs.writeable.ShortfallWrite.write_str.Given as goal

abbrev pub invariant-loop-first : goal.invariant-loop-first
invariant-loop-first l = l.self.left - char_count l.rest ≡ l.fn.self.left - char_count l.text

abbrev pub decreases-loop-first : goal.decreases-loop-first
decreases-loop-first l = length l.rest
