use Rattle.os_quote.proofs.{Common.length, Common.shadow, Common.Utf8, Common.text_escape, Common.shown_by}
use Rattle.platform_str.proofs.lemmas.Taking.{TakesRest}
use Rattle.os_quote.proofs.write_walk.write_text.Given as goal

abbrev pub invariant-loop-prefix : goal.invariant-loop-prefix
invariant-loop-prefix g l =
    shadow (Utf8 l.rest) × TakesRest g.S.Sink.rules l.fn.sink l.sink (text_escape (shown_by l.form) l.rest) (text_escape (shown_by l.form) l.fn.text)

abbrev pub decreases-loop-prefix : goal.decreases-loop-prefix
decreases-loop-prefix g l = length l.rest
