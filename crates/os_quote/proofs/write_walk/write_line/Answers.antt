use Rattle.os_quote.proofs.Common.{◌++◌, ◌∙◌, [], ap, append-nil, bytes, ending, escape_of, has_ending, item_text, item_texts, space, stays_on_line, sym, WideUnit}
use Rattle.os_quote.specs.declared.form.Form.TheVariants.{Line}
use Rattle.os_quote.proofs.lemmas.Endings.{with_ending}
use Rattle.platform_str.proofs.lemmas.Taking.{nothing_taken, one_taken, last_taken, room_left, none_taken, rejected}
use Rattle.os_quote.proofs.write_walk.write_line.Goals as goal

pub returns-in_err-walk : goal.returns-in_err-walk
returns-in_err-walk g c =
    let sink = g.S.Sink.rules in
    let s = bytes c.args.string in
    let parts = ap (λ x. escape_of stays_on_line g.E.Platform.units x ++ item_texts (ending Line s)) (sym c.before_space.ensures) in
    rejected sink _ _ c.from_residual.result c.from_residual.ensures.1 (none_taken sink (nothing_taken sink) _ (item_texts (ending Line s)) c.in_err-walk.ensures parts)

pub write_character-requires : goal.write_character-requires
write_character-requires g c =
    let sink = g.S.Sink.rules in
    let s = bytes c.args.string in
    let parts = ap (λ x. escape_of stays_on_line g.E.Platform.units x ++ item_texts (ending Line s)) (sym c.before_space.ensures) in
    let taken = one_taken sink (nothing_taken sink) c.in_ok-walk.ensures parts in
    let has = ap (has_ending Line) (sym c.as_encoded_bytes.ensures.value) ∙ sym c.has_ending.ensures ∙ c.if-has_ending.true in
    room_left sink taken (item_text (WideUnit space)) [] c.requires (ap item_texts (with_ending Line s has).1)

pub returns-then-has_ending : goal.returns-then-has_ending
returns-then-has_ending g c =
    let sink = g.S.Sink.rules in
    let s = bytes c.args.string in
    let parts = ap (λ x. escape_of stays_on_line g.E.Platform.units x ++ item_texts (ending Line s)) (sym c.before_space.ensures) in
    let taken = one_taken sink (nothing_taken sink) c.in_ok-walk.ensures parts in
    let has = ap (has_ending Line) (sym c.as_encoded_bytes.ensures.value) ∙ sym c.has_ending.ensures ∙ c.if-has_ending.true in
    last_taken sink (item_text (WideUnit space)) _ taken (ap item_texts (with_ending Line s has).1 ∙ append-nil (item_text (WideUnit space))) c.write_character.result c.write_character.ensures
