use Rattle.test_uses.proofs.TwoPieces.{first_rejected, second_taken}
use Rattle.test_uses.proofs.sinks.take_both.Goals as goal

pub take_text-requires : goal.take_text-requires
take_text-requires g c = g.S.Sink.rules.room_before _ _ _ c.requires

pub take_text-requires-2 : goal.take_text-requires-2
take_text-requires-2 g c = g.S.Sink.rules.room_after _ _ _ _ c.in_ok-take_text.ensures c.requires

pub returns-in_err-take_text : goal.returns-in_err-take_text
returns-in_err-take_text g c = first_rejected g.S.Sink.rules _ _ _ c.from_residual.result c.from_residual.ensures.1 c.in_err-take_text.ensures

pub returns : goal.returns
returns g c = second_taken g.S.Sink.rules _ _ c.in_ok-take_text.ensures c.take_text-2.result c.take_text-2.ensures
