use Rattle.os_quote.proofs.Common.{◌++◌, [], ◌∙◌, sym, ap, subst, append-nil, nil_from_length, eqb-true, escape_of, item_text, item_texts, items_of, shown_by, unit_item}
use Rattle.os_str_ext.proofs.lemmas.FirstChunk.{no_chunks}
use Rattle.os_quote.proofs.lemmas.{FirstUnits.unit_first, PlainBytes.plain_is_text, Prefixes.plain_first, Prefixes.rest_formed, Prefixes.text_first}
use Rattle.platform_str.proofs.lemmas.Taking.{one_taken, all_taken, room_left, none_taken, rejected}
use Rattle.os_quote.proofs.write_walk.walk.Goals as goal

pub take_text-requires : goal.take_text-requires
take_text-requires g c = room_left g.S.Sink.rules c.loop-rest.invariant.1 _ _ c.requires (plain_first g.met.E.Platform.occurrence c.args.form c.in-Some.ensures)

pub returns-in_err-take_text : goal.returns-in_err-take_text
returns-in_err-take_text g c = rejected g.S.Sink.rules _ _ c.from_residual.result c.from_residual.ensures.1 (none_taken g.S.Sink.rules c.loop-rest.invariant.1 _ _ c.in_err-take_text.ensures (plain_first g.met.E.Platform.occurrence c.args.form c.in-Some.ensures))

pub loop-rest-preserved-in-Some : goal.loop-rest-preserved-in-Some
loop-rest-preserved-in-Some g c = (rest_formed g.met.E.Platform.occurrence _ c.loop-rest.invariant.0 (plain_is_text _ c.in-Some.ensures.plain) c.in-Some.ensures.joined, one_taken g.S.Sink.rules c.loop-rest.invariant.1 c.in_ok-take_text.ensures (plain_first g.met.E.Platform.occurrence c.args.form c.in-Some.ensures))

pub write_bytes-requires : goal.write_bytes-requires
write_bytes-requires g c =
    let begins = c.in-Some-split_first_byte.ensures in
    record { formed = begins.formed; room = room_left g.S.Sink.rules c.loop-rest.invariant.1 _ [] c.requires (begins.escape ∙ sym (append-nil _)) }

pub returns-in_err-rest : goal.returns-in_err-rest
returns-in_err-rest g c = rejected g.S.Sink.rules _ _ c.from_residual-in_err-rest.result c.from_residual-in_err-rest.ensures.1 (none_taken g.S.Sink.rules c.loop-rest.invariant.1 _ [] c.in_err-rest.ensures.taken (c.in-Some-split_first_byte.ensures.escape ∙ sym (append-nil _)))

pub loop-rest-preserved-in-Some-split_first_byte : goal.loop-rest-preserved-in-Some-split_first_byte
loop-rest-preserved-in-Some-split_first_byte g c =
    let taken = c.in_ok-rest.ensures.taken in
    (c.in_ok-rest.ensures.rest.0, one_taken g.S.Sink.rules c.loop-rest.invariant.1 taken.1 (c.in-Some-split_first_byte.ensures.escape ∙ taken.2))

pub write_text-requires : goal.write_text-requires
write_text-requires g c = room_left g.S.Sink.rules c.loop-rest.invariant.1 _ _ c.requires (text_first g.met.E.Platform.occurrence (shown_by c.args.form) _ c.in-Some-split_text.ensures.is_text c.in-Some-split_text.ensures.joined)

pub returns-in_err-write_text : goal.returns-in_err-write_text
returns-in_err-write_text g c = rejected g.S.Sink.rules _ _ c.from_residual-in_err-write_text.result c.from_residual-in_err-write_text.ensures.1 (none_taken g.S.Sink.rules c.loop-rest.invariant.1 _ _ c.in_err-write_text.ensures (text_first g.met.E.Platform.occurrence (shown_by c.args.form) _ c.in-Some-split_text.ensures.is_text c.in-Some-split_text.ensures.joined))

pub loop-rest-preserved-in-Some-split_text : goal.loop-rest-preserved-in-Some-split_text
loop-rest-preserved-in-Some-split_text g c = (rest_formed g.met.E.Platform.occurrence _ c.loop-rest.invariant.0 c.in-Some-split_text.ensures.is_text c.in-Some-split_text.ensures.joined, one_taken g.S.Sink.rules c.loop-rest.invariant.1 c.in_ok-write_text.ensures (text_first g.met.E.Platform.occurrence (shown_by c.args.form) _ c.in-Some-split_text.ensures.is_text c.in-Some-split_text.ensures.joined))

pub write_unit-requires : goal.write_unit-requires
write_unit-requires g c = room_left g.S.Sink.rules c.loop-rest.invariant.1 _ _ c.requires (unit_first g.met.E.Platform.occurrence (shown_by c.args.form) g.met.E.Platform.laws.cut_prefix c.loop-rest.invariant.0 c.in_default-split_text.ensures c.first_unit-unit.ensures)

pub returns-in_err-write_unit : goal.returns-in_err-write_unit
returns-in_err-write_unit g c = rejected g.S.Sink.rules _ _ c.from_residual-in_err-write_unit.result c.from_residual-in_err-write_unit.ensures.1 (none_taken g.S.Sink.rules c.loop-rest.invariant.1 _ _ c.in_err-write_unit.ensures (unit_first g.met.E.Platform.occurrence (shown_by c.args.form) g.met.E.Platform.laws.cut_prefix c.loop-rest.invariant.0 c.in_default-split_text.ensures c.first_unit-unit.ensures))

pub loop-rest-preserved : goal.loop-rest-preserved
loop-rest-preserved g c = (subst g.E.Platform.well_formed (sym c.split_at.ensures.back) c.first_unit-unit.ensures.after, one_taken g.S.Sink.rules c.loop-rest.invariant.1 c.in_ok-write_unit.ensures (unit_first g.met.E.Platform.occurrence (shown_by c.args.form) g.met.E.Platform.laws.cut_prefix c.loop-rest.invariant.0 c.in_default-split_text.ensures c.first_unit-unit.ensures ∙ ap (λ r. item_text (unit_item c.first_unit-unit.result.0) ++ escape_of (shown_by c.args.form) g.E.Platform.units r) (sym c.split_at.ensures.back)))

pub returns : goal.returns
returns g c =
    let empty = nil_from_length c.loop-rest.rest.now (eqb-true _ _ (sym c.is_empty.ensures ∙ c.loop-rest-test.false)) in
    all_taken g.S.Sink.rules c.loop-rest.invariant.1 (ap (λ cs. item_texts (items_of (shown_by c.args.form) g.E.Platform.units cs)) (no_chunks c.loop-rest.rest.now empty))
