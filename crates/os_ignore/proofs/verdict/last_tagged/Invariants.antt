use Rattle.std.proofs.Common.{◌≤◌, length}
use Rattle.memchr.specs.Find.{is_byte3}
use Rattle.os_ignore.specs.Tags.{NoneTagged}
use Rattle.os_ignore.proofs.verdict.last_tagged.Given as goal

abbrev pub invariant-loop-at : goal.invariant-loop-at
invariant-loop-at g l = record {
  within : l.end ≤ length l.tags;
  none : NoneTagged (is_byte3 l.wanted.0 l.wanted.1 l.wanted.2) l.path l.is_dir l.lines l.tags l.end;
}

abbrev pub decreases-loop-at : goal.decreases-loop-at
decreases-loop-at g l = l.end
