use Rattle.std.proofs.Common.{◌++◌, ap, ◌∙◌, subst, sym}
use Rattle.wtf8_core.specs.Checker.{Describes, saved_progress}
use Rattle.osbytes_c.proofs.strings.checker.osb_core_feed.Goals as goal

pub returns-in-Some-fault-clause-fault : goal.returns-in-Some-fault-clause-fault
returns-in-Some-fault-clause-fault c is fed h =
    let saved = c.save-saved.result in
    let before = subst (λ p. Describes p fed) (sym c.in-Some.ensures.checker) h in
    let after = c.feed.ensures.describes fed before in
    let fault = ap (λ f. saved_progress (record { state = saved.state; bits = saved.bits; fault = f })) c.in-Some-fault.is in
    let met = subst (λ p. Describes p (fed ++ c.args.piece.now)) (sym c.save-saved.ensures.saved ∙ fault) after in
    (c.in-Some-fault.error, (met, (c.reported.ensures.kind, c.reported.ensures.value)))
