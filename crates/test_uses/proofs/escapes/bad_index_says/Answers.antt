use Rattle.test_uses.proofs.Outcomes.{err_and}
use Rattle.os_quote.specs.declared.form.Form.TheVariants.{Text}
use Rattle.test_uses.proofs.QuoteFaults.{bad_index}
use Rattle.test_uses.proofs.escapes.bad_index_says.Goals as goal

pub returns : goal.returns
returns g c =
    let P = g.E.Platform in
    let text = c.args.text.now in
    let at = c.args.at in
    err_and c.unescape.result c.unescape.ensures.string c.unescape.ensures.fault
    (λ string is. c.bad_escapes.ensures.never _ text at string.ok is c.requires)
    (bad_index Text P.well_formed P.units text at (λ m is. c.bad_escapes.ensures.one_index text m at is c.requires) c.requires)
