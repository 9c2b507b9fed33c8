use Rattle.os_quote.specs.declared.form.Form.TheVariants.{Line}
use Rattle.test_uses.proofs.Outcomes.{err_is}
use Rattle.test_uses.proofs.QuoteFaults.{only_bad_index}
use Rattle.test_uses.proofs.line_escapes.bad_line_index_in.Goals as goal

pub returns : goal.returns
returns g c =
    let P = g.E.Platform in
    let text = c.args.text.now in
    let at = c.args.at in
    err_is c.write_unescaped_line.result c.write_unescaped_line.ensures.string c.write_unescaped_line.ensures.fault c.write_unescaped_line.ensures.never_memory
    (λ count is. is.tokens at c.requires)
    (only_bad_index Line P.well_formed P.units text at (λ m is. c.line_escapes.ensures.one_index text m at is c.requires) c.requires)
