use Rattle.std.proofs.Common.{[], ◌∷◌, ◌++◌, refl, sym, ap, ◌∙◌, subst}
use Rattle.os_command_line.specs.ShellWriting.{single_byte}
use Rattle.platform_str.proofs.lemmas.Taking.{nothing_taken, one_taken, last_taken, room_left, none_taken, rejected}
use Rattle.os_command_line.proofs.lemmas.ShellWritten.{inner_text, cut_text, shown_text, cut_shorter, marked_low}
use Rattle.os_command_line.proofs.shell.write_word.write_single.Goals as goal

pub take_text-requires : goal.take_text-requires
take_text-requires g c = g.S.Sink.rules.room_before _ (0x27 ∷ []) (inner_text c.args.bytes.now) c.requires.room

pub loop-prefix-init : goal.loop-prefix-init
loop-prefix-init g c = (c.requires.accepted, one_taken g.S.Sink.rules (nothing_taken g.S.Sink.rules) c.in_ok-take_text.ensures refl)

pub take-requires : goal.take-requires
take-requires g c =
    let cut = c.in-Some.ensures in
    record {
      accepted = g.S.Sink.pieces.before _ _ _ (marked_low _ cut.marked) (subst g.S.Sink.pieces.accepts cut.joined c.loop-prefix.invariant.0);
      room = room_left g.S.Sink.rules c.loop-prefix.invariant.1 _ _ c.requires.room (cut_text _ _ _ _ cut);
    }

pub take_text-requires-in-Some : goal.take_text-requires-in-Some
take_text-requires-in-Some g c =
    let taken = one_taken g.S.Sink.rules c.loop-prefix.invariant.1 c.in_ok-take.ensures (cut_text _ _ _ _ c.in-Some.ensures) in
    let escape = c.marked_text.ensures ∙ ap (λ first. single_byte first c.in-Some.byte) c.ends_line.ensures in
    room_left g.S.Sink.rules taken _ _ c.requires.room (ap (λ x. x ++ inner_text c.in-Some.after.now) (sym escape))

pub loop-prefix-preserved : goal.loop-prefix-preserved
loop-prefix-preserved g c =
    let cut = c.in-Some.ensures in
    let taken = one_taken g.S.Sink.rules c.loop-prefix.invariant.1 c.in_ok-take.ensures (cut_text _ _ _ _ cut) in
    let escape = c.marked_text.ensures ∙ ap (λ first. single_byte first c.in-Some.byte) c.ends_line.ensures in
    (g.S.Sink.pieces.after _ _ _ (marked_low _ cut.marked) (subst g.S.Sink.pieces.accepts cut.joined c.loop-prefix.invariant.0), one_taken g.S.Sink.rules taken c.in_ok-take_text-2.ensures (ap (λ x. x ++ inner_text c.in-Some.after.now) (sym escape)))

pub loop-prefix-smaller : goal.loop-prefix-smaller
loop-prefix-smaller g c = cut_shorter _ _ _ _ c.in-Some.ensures

pub take-requires-2-clause-room : goal.take-requires-2-clause-room
take-requires-2-clause-room g c = room_left g.S.Sink.rules c.loop-prefix.invariant.1 _ _ c.requires.room (shown_text _ c.in_default.ensures)

pub take_text-requires-2 : goal.take_text-requires-2
take_text-requires-2 g c =
    let taken = one_taken g.S.Sink.rules c.loop-prefix.invariant.1 c.in_ok-take-2.ensures (shown_text _ c.in_default.ensures) in
    room_left g.S.Sink.rules taken (0x27 ∷ []) [] c.requires.room refl

pub returns-in_err-take_text : goal.returns-in_err-take_text
returns-in_err-take_text g c = rejected g.S.Sink.rules _ _ c.from_residual.result c.from_residual.ensures.1 (none_taken g.S.Sink.rules (nothing_taken g.S.Sink.rules) (0x27 ∷ []) (inner_text c.args.bytes.now) c.in_err-take_text.ensures refl)

pub returns-in_err-take : goal.returns-in_err-take
returns-in_err-take g c = rejected g.S.Sink.rules _ _ c.from_residual-in_err-take.result c.from_residual-in_err-take.ensures.1 (none_taken g.S.Sink.rules c.loop-prefix.invariant.1 _ _ c.in_err-take.ensures (cut_text _ _ _ _ c.in-Some.ensures))

pub returns-in_err-take_text-2 : goal.returns-in_err-take_text-2
returns-in_err-take_text-2 g c =
    let taken = one_taken g.S.Sink.rules c.loop-prefix.invariant.1 c.in_ok-take.ensures (cut_text _ _ _ _ c.in-Some.ensures) in
    let escape = c.marked_text.ensures ∙ ap (λ first. single_byte first c.in-Some.byte) c.ends_line.ensures in
    rejected g.S.Sink.rules _ _ c.from_residual-in_err-take_text-2.result c.from_residual-in_err-take_text-2.ensures.1 (none_taken g.S.Sink.rules taken _ _ c.in_err-take_text-2.ensures (ap (λ x. x ++ inner_text c.in-Some.after.now) (sym escape)))

pub returns-in_err-take-2 : goal.returns-in_err-take-2
returns-in_err-take-2 g c = rejected g.S.Sink.rules _ _ c.from_residual-in_err-take-2.result c.from_residual-in_err-take-2.ensures.1 (none_taken g.S.Sink.rules c.loop-prefix.invariant.1 _ _ c.in_err-take-2.ensures (shown_text _ c.in_default.ensures))

pub returns : goal.returns
returns g c =
    let taken = one_taken g.S.Sink.rules c.loop-prefix.invariant.1 c.in_ok-take-2.ensures (shown_text _ c.in_default.ensures) in
    last_taken g.S.Sink.rules (0x27 ∷ []) _ taken refl c.take_text-2.result c.take_text-2.ensures
