use Rattle.platform_str.proofs.Common.{◌≡◌, ◌++◌, length, IsUtf8}
use Rattle.std.specs.Option.{MatchOption}
use Rattle.wtf8_core.specs.Utf8.{IsUtf8Fault}
use Rattle.platform_str.proofs.lossy.text_bytes.Given as goal

abbrev pub invariant-loop-fault : goal.invariant-loop-fault
invariant-loop-fault g l =
    g.E.Platform.well_formed l.rest × (l.text.items ++ g.E.Platform.lossy l.rest ≡ g.E.Platform.lossy l.bytes)
    × MatchOption l.fault (IsUtf8 l.rest) (λ fault. IsUtf8Fault l.rest fault.0 fault.1)

abbrev pub decreases-loop-fault : goal.decreases-loop-fault
decreases-loop-fault g l = length l.rest
