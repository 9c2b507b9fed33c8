use Rattle.wtf8_core.proofs.Common.{◌-◌, arith, take_rest}
use Rattle.std.proofs.lemmas.Bool.{leb-true}
use Rattle.wtf8_core.proofs.lemmas.vectors.Windows.{more_clamped}
use Rattle.wtf8_core.specs.declared.vectors.Encoding.TheVariants.{Utf8}
use Rattle.wtf8_core.proofs.vectors.scan.is_step_allowed.Goals as goal

pub returns : goal.returns
returns c t k =
    let whole = leb-true 16 _ t in
    more_clamped Utf8 c.args.bytes.now c.args.to c.min-at.result _ 16 c.requires.from c.requires.some c.min-at.ensures (take_rest c.args.bytes.now (c.min-at.result - 4)) (λ i h. c.allowed_in_step.ensures.pattern i (omega (arith, whole, h))) k
