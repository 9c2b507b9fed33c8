use Rattle.std.proofs.Common.{[], ◌∷◌, refl}
use Rattle.platform_str.proofs.lemmas.Taking.{nothing_taken, one_taken, last_taken, none_taken, rejected}
use Rattle.os_command_line.proofs.shell.write_word.write_again.Goals as goal

pub take_text-requires : goal.take_text-requires
take_text-requires g c = g.S.Sink.rules.room_before _ (0x27 ∷ 0x24 ∷ 0x27 ∷ []) _ c.requires

pub write_symbol-requires : goal.write_symbol-requires
write_symbol-requires g c = g.S.Sink.rules.room_after _ _ (0x27 ∷ 0x24 ∷ 0x27 ∷ []) _ c.in_ok-take_text.ensures c.requires

pub returns-in_err-take_text : goal.returns-in_err-take_text
returns-in_err-take_text g c = rejected g.S.Sink.rules _ _ c.from_residual.result c.from_residual.ensures.1 (none_taken g.S.Sink.rules (nothing_taken g.S.Sink.rules) (0x27 ∷ 0x24 ∷ 0x27 ∷ []) _ c.in_err-take_text.ensures refl)

pub returns : goal.returns
returns g c = last_taken g.S.Sink.rules _ _ (one_taken g.S.Sink.rules (nothing_taken g.S.Sink.rules) {more = 0x27 ∷ 0x24 ∷ 0x27 ∷ []} c.in_ok-take_text.ensures refl) refl c.write_symbol.result c.write_symbol.ensures
