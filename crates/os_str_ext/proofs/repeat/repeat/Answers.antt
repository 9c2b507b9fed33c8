use Rattle.os_str_ext.proofs.Common.{◌≡◌, length, refl, sym, ap, ◌∙◌, bytes}
use Rattle.std.proofs.Common.{true-eqb}
use Rattle.os_str_ext.proofs.lemmas.Repeats.{no_times, of_nothing, once_more}
use Rattle.os_str_ext.proofs.repeat.repeat.Goals as goal

pub returns-then-is_empty-clause-units : goal.returns-then-is_empty-clause-units
returns-then-is_empty-clause-units g c =
    let none : length (bytes c.args.string) ≡ 0 = ap length (sym c.as_encoded_bytes-encoded.ensures.value) ∙ true-eqb _ 0 c.if-is_empty.ensures in
    (of_nothing g.E.Platform.well_formed g.E.Platform.units g.met.E.Platform.occurrence (bytes c.args.string) _ c.args.count (ap (λ v. v.items) c.from_encoded_bytes_unchecked.ensures ∙ c.new-vec.ensures.items) none).1

pub loop-init : goal.loop-init
loop-init g c = no_times g.E.Platform.well_formed g.E.Platform.units g.met.E.Platform.occurrence c.as_encoded_bytes-encoded.result.now _ 0 (c.reserve_exact.ensures.items ∙ c.new-vec.ensures.items) refl

pub loop-preserved : goal.loop-preserved
loop-preserved g c = once_more g.E.Platform.well_formed g.E.Platform.units g.met.E.Platform.occurrence c.as_encoded_bytes-encoded.result.now _ _ c.loop.counter c.loop.invariant c.push_bytes.ensures.formed c.in_ok-push_bytes.ensures.ok
