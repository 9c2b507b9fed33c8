use Rattle.os_quote.proofs.Common.{[], ◌∙◌, refl, sym, append-nil}
use Rattle.os_quote.proofs.lemmas.{Texts.cut_escape, Texts.unchanged_text, Lines.cut_is_shorter}
use Rattle.platform_str.proofs.lemmas.Taking.{one_taken, last_taken, room_left, none_taken, rejected}
use Rattle.os_quote.proofs.write_walk.write_text.Goals as goal

pub write_unchanged-requires : goal.write_unchanged-requires
write_unchanged-requires g c = room_left g.S.Sink.rules c.loop-prefix.invariant.1 _ _ c.requires (cut_escape _ c.loop-prefix.invariant.0 c.in-Some.ensures)

pub write_character-requires : goal.write_character-requires
write_character-requires g c =
    let sink = g.S.Sink.rules in
    room_left sink (one_taken sink c.loop-prefix.invariant.1 c.in_ok-write_unchanged.ensures (cut_escape _ c.loop-prefix.invariant.0 c.in-Some.ensures)) _ _ c.requires refl

pub loop-prefix-preserved : goal.loop-prefix-preserved
loop-prefix-preserved g c =
    let sink = g.S.Sink.rules in
    (c.in-Some.ensures.after_text, one_taken sink (one_taken sink c.loop-prefix.invariant.1 c.in_ok-write_unchanged.ensures (cut_escape _ c.loop-prefix.invariant.0 c.in-Some.ensures)) c.in_ok-write_character.ensures refl)

pub loop-prefix-smaller : goal.loop-prefix-smaller
loop-prefix-smaller g c = cut_is_shorter _ _ _ _ _ c.in-Some.ensures

pub returns-in_err-write_unchanged : goal.returns-in_err-write_unchanged
returns-in_err-write_unchanged g c = rejected g.S.Sink.rules _ _ c.from_residual.result c.from_residual.ensures.1 (none_taken g.S.Sink.rules c.loop-prefix.invariant.1 _ _ c.in_err-write_unchanged.ensures (cut_escape _ c.loop-prefix.invariant.0 c.in-Some.ensures))

pub returns-in_err-write_character : goal.returns-in_err-write_character
returns-in_err-write_character g c =
    let sink = g.S.Sink.rules in
    rejected g.S.Sink.rules _ _ c.from_residual-in_err-write_character.result c.from_residual-in_err-write_character.ensures.1 (none_taken sink (one_taken sink c.loop-prefix.invariant.1 c.in_ok-write_unchanged.ensures (cut_escape _ c.loop-prefix.invariant.0 c.in-Some.ensures)) _ _ c.in_err-write_character.ensures refl)

pub take_text-requires : goal.take_text-requires
take_text-requires g c = room_left g.S.Sink.rules c.loop-prefix.invariant.1 _ [] c.requires (unchanged_text _ _ c.loop-prefix.invariant.0 c.in_default.ensures ∙ sym (append-nil _))

pub returns : goal.returns
returns g c = last_taken g.S.Sink.rules _ _ c.loop-prefix.invariant.1 (unchanged_text _ _ c.loop-prefix.invariant.0 c.in_default.ensures) c.take_text.result c.take_text.ensures
