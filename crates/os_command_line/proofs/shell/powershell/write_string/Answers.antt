use Rattle.std.proofs.Common.{◌≡◌, [], ◌∷◌, refl, rules, sym, ap, subst}
use Rattle.std.proofs.lemmas.List.{nil_from_length}
use Rattle.std.specs.Str.{IsUtf8}
use Rattle.std.specs.Str.Iter.{chars_rest}
use Rattle.platform_str.proofs.lemmas.Taking.{nothing_taken, one_taken, last_taken, room_left, none_taken, rejected}
use Rattle.os_command_line.proofs.lemmas.PowerShell.{inner_text, one_more, no_more, after_character}
use Rattle.os_command_line.proofs.shell.powershell.write_string.Goals as goal

pub take_text-requires : goal.take_text-requires
take_text-requires g c = g.S.Sink.rules.room_before _ (0x27 ∷ []) (inner_text c.args.text.now) c.requires

pub loop-character-init : goal.loop-character-init
loop-character-init g c =
    let whole : chars_rest c.into_iter-character-iterator.result ≡ c.args.text.now = search rules in
    (subst IsUtf8 (sym whole) c.utf8.text, one_taken g.S.Sink.rules (nothing_taken g.S.Sink.rules) c.in_ok-take_text.ensures (ap (λ x. 0x27 ∷ inner_text x) (sym whole)))

pub write_character-requires : goal.write_character-requires
write_character-requires g c = room_left g.S.Sink.rules c.loop-character.invariant.1 _ _ c.requires (one_more _ _ _ c.loop-character.invariant.0 c.in-Some.ensures.steps.0)

pub loop-character-preserved : goal.loop-character-preserved
loop-character-preserved g c =
    let steps = c.in-Some.ensures.steps.0 in
    (after_character _ _ _ c.loop-character.invariant.0 steps, one_taken g.S.Sink.rules c.loop-character.invariant.1 c.in_ok-write_character.ensures (one_more _ _ _ c.loop-character.invariant.0 steps))

pub take_text-requires-2 : goal.take_text-requires-2
take_text-requires-2 g c = room_left g.S.Sink.rules c.loop-character.invariant.1 (0x27 ∷ []) [] c.requires (no_more _ (nil_from_length _ c.in-None.ensures.steps.0.0))

pub returns-in_err-take_text : goal.returns-in_err-take_text
returns-in_err-take_text g c = rejected g.S.Sink.rules _ _ c.from_residual.result c.from_residual.ensures.1 (none_taken g.S.Sink.rules (nothing_taken g.S.Sink.rules) (0x27 ∷ []) (inner_text c.args.text.now) c.in_err-take_text.ensures refl)

pub returns-in_err-write_character : goal.returns-in_err-write_character
returns-in_err-write_character g c = rejected g.S.Sink.rules _ _ c.from_residual-in_err-write_character.result c.from_residual-in_err-write_character.ensures.1 (none_taken g.S.Sink.rules c.loop-character.invariant.1 _ _ c.in_err-write_character.ensures (one_more _ _ _ c.loop-character.invariant.0 c.in-Some.ensures.steps.0))

pub returns : goal.returns
returns g c = last_taken g.S.Sink.rules (0x27 ∷ []) _ c.loop-character.invariant.1 (no_more _ (nil_from_length _ c.in-None.ensures.steps.0.0)) c.take_text-2.result c.take_text-2.ensures
