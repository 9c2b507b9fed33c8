use Rattle.std.proofs.Common.{◌≡◌, map, length}
use Rattle.std.specs.Char.{to_ascii_lowercase}
use Rattle.wildcards.specs.Tables.{digest_after}
use Rattle.wildcards.proofs.digest.small_digest.Given as goal

abbrev pub invariant-loop-byte : goal.invariant-loop-byte
invariant-loop-byte l = digest_after l.number (map to_ascii_lowercase l.left) ≡ digest_after 0 (map to_ascii_lowercase l.text)

abbrev pub decreases-loop-byte : goal.decreases-loop-byte
decreases-loop-byte l = length l.left
