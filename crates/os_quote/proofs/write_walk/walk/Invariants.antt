use Rattle.os_quote.proofs.{Common.length, Common.bytes, Common.shown_by, Common.escape_of}
use Rattle.platform_str.proofs.lemmas.Taking.{TakesRest}
use Rattle.os_quote.proofs.write_walk.walk.Given as goal

abbrev pub invariant-loop-rest : goal.invariant-loop-rest
invariant-loop-rest g l =
    let P = g.E.Platform in
    let escape = escape_of (shown_by l.form) P.units in
    P.well_formed l.rest × TakesRest g.S.Sink.rules l.fn.sink l.sink (escape l.rest) (escape (bytes l.string))

abbrev pub decreases-loop-rest : goal.decreases-loop-rest
decreases-loop-rest g l = length l.rest
