use Rattle.std.proofs.Common.{sym, ◌∙◌}
use Rattle.path_rules.proofs.lemmas.Alike.{and_then}
use Rattle.path_rules.proofs.lemmas.ReservedNames.{device_from}
use Rattle.path_rules.proofs.reserved.has_device_base.Goals as goal

pub returns : goal.returns
returns c =
    let field = c.before_dot.result.now in
    let e = c.is_device.ensures in
    and_then (λ h. sym e ∙ h, λ h. e ∙ h) (device_from c.args.name.now c.without_spaces.result.now (record { field = field; rest = c.before_dot.ensures.0; first = c.before_dot.ensures.1; is = c.without_spaces.ensures }))
