use Rattle.platform_str.proofs.Common.{[], ◌++◌, ◌∙◌, length, refl, sym, ap, arith, length-append, replacement}
use Rattle.platform_str.proofs.lemmas.{LossyLoops.one_more, Taking.one_taken, Taking.last_taken, Taking.none_taken, Taking.rejected}
use Rattle.platform_str.proofs.lossy.write_text.Goals as goal

pub loop-text-init : goal.loop-text-init
loop-text-init g c = (c.requires.formed, (([], g.S.Sink.rules.took_nothing _, refl), omega arith))

pub take_text-requires : goal.take_text-requires
take_text-requires g c =
    let so_far = c.loop-text.invariant.1 in
    let made = so_far.0.0 in
    let text = c.in-Some.text.now in
    g.S.Sink.rules.room_after _ _ made text so_far.0.1 (c.requires.room (made ++ text) (omega (arith, so_far.1, c.in-Some.ensures.shorter, length-append made text)))

pub take_text-requires-in-Some : goal.take_text-requires-in-Some
take_text-requires-in-Some g c =
    let so_far = c.loop-text.invariant.1 in
    let made = so_far.0.0 in
    let text = c.in-Some.text.now in
    let taken = g.S.Sink.rules.took_both _ _ _ made text so_far.0.1 c.in_ok-take_text.ensures in
    g.S.Sink.rules.room_after _ _ (made ++ text) replacement taken (c.requires.room ((made ++ text) ++ replacement) (omega (arith, so_far.1, c.in-Some.ensures.shorter, length-append made text, length-append (made ++ text) replacement)))

pub loop-text-preserved : goal.loop-text-preserved
loop-text-preserved g c =
    let so_far = c.loop-text.invariant.1 in
    let made = so_far.0.0 in
    let text = c.in-Some.text.now in
    let taken = g.S.Sink.rules.took_both _ _ _ made text so_far.0.1 c.in_ok-take_text.ensures in
    let both = g.S.Sink.rules.took_both _ _ _ (made ++ text) replacement taken c.in_ok-take_text-2.ensures in
    (c.in-Some.ensures.rest_is, (((made ++ text) ++ replacement, both, sym (one_more made c.in-Some.ensures) ∙ so_far.0.2), omega (arith, so_far.1, c.in-Some.ensures.shorter, length-append made text, length-append (made ++ text) replacement)))

pub loop-text-smaller : goal.loop-text-smaller
loop-text-smaller g c = omega (arith, c.in-Some.ensures.shorter)

pub take_text-requires-2 : goal.take_text-requires-2
take_text-requires-2 g c =
    let so_far = c.loop-text.invariant.1 in
    let made = so_far.0.0 in
    let rest = c.from_utf8_unchecked.result.now in
    g.S.Sink.rules.room_after _ _ made rest so_far.0.1 (c.requires.room (made ++ rest) (omega (arith, so_far.1, ap length c.from_utf8_unchecked.ensures, length-append made rest)))

pub returns-in_err-take_text : goal.returns-in_err-take_text
returns-in_err-take_text g c = rejected g.S.Sink.rules _ _ c.from_residual.result c.from_residual.ensures.1 (none_taken g.S.Sink.rules c.loop-text.invariant.1.0 _ _ c.in_err-take_text.ensures c.in-Some.ensures.lossy_is)

pub returns-in_err-take_text-2 : goal.returns-in_err-take_text-2
returns-in_err-take_text-2 g c =
    let taken = one_taken g.S.Sink.rules c.loop-text.invariant.1.0 c.in_ok-take_text.ensures c.in-Some.ensures.lossy_is in
    rejected g.S.Sink.rules _ _ c.from_residual-in_err-take_text-2.result c.from_residual-in_err-take_text-2.ensures.1 (none_taken g.S.Sink.rules taken _ _ c.in_err-take_text-2.ensures refl)

pub returns : goal.returns
returns g c =
    let same = g.met.E.Platform.laws.lossy_text c.loop-text.rest.now c.in_default.ensures in
    last_taken g.S.Sink.rules c.from_utf8_unchecked.result.now _ c.loop-text.invariant.1.0 (same ∙ sym c.from_utf8_unchecked.ensures) c.take_text-2.result c.take_text-2.ensures
