use Rattle.platform_str.proofs.Common.{◌+◌, ◌*◌, ◌≤◌, length}
use Rattle.platform_str.proofs.lemmas.Taking.{TakesRest}
use Rattle.platform_str.proofs.lossy.write_text.Given as goal

-- what was taken so far, and no more than three bytes for each that was read
abbrev pub invariant-loop-text : goal.invariant-loop-text
invariant-loop-text g l =
    let lossy = g.E.Platform.lossy in
    g.E.Platform.well_formed l.rest × ((so_far : TakesRest g.S.Sink.rules l.fn.sink l.sink (lossy l.rest) (lossy l.bytes)) × (length so_far.0 + 3 * length l.rest ≤ 3 * length l.bytes))

abbrev pub decreases-loop-text : goal.decreases-loop-text
decreases-loop-text g l = length l.rest
