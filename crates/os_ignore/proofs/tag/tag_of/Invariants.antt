use Rattle.std.proofs.Common.{◌≡◌, map, length}
use Rattle.std.specs.Char.{to_ascii_lowercase}
use Rattle.os_ignore.specs.Tags.{tag_after, tag_of}
use Rattle.os_ignore.proofs.tag.tag_of.Given as goal

abbrev pub invariant-loop-byte : goal.invariant-loop-byte
invariant-loop-byte l = tag_after l.tag (map to_ascii_lowercase l.left) ≡ tag_of l.text

abbrev pub decreases-loop-byte : goal.decreases-loop-byte
decreases-loop-byte l = length l.left
