use Rattle.test_uses.proofs.Outcomes.{err_and}
use Rattle.os_quote.specs.declared.form.Form.TheVariants.{Line}
use Rattle.test_uses.proofs.QuoteFaults.{bad_index}
use Rattle.test_uses.proofs.line_escapes.bad_line_index_says.Goals as goal

pub returns : goal.returns
returns g c =
    let P = g.E.Platform in
    let text = c.args.text.now in
    let at = c.args.at in
    err_and c.unescape_line.result c.unescape_line.ensures.string c.unescape_line.ensures.fault
    (λ string is. c.line_escapes.ensures.never_bad _ text at string.ok is c.requires)
    (bad_index Line P.well_formed P.units text at (λ m is. c.line_escapes.ensures.one_index text m at is c.requires) c.requires)
