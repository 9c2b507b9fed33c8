use Rattle.std.proofs.Common.{sym, subst}
use Rattle.wtf8_core.specs.Truncated.{IsTruncated}
use Rattle.os_quote.specs.declared.form.Form.TheVariants.{Line}
use Rattle.platform_str.specs.Strings.{bytes}
use Rattle.test_uses.proofs.Outcomes.{ok_and}
use Rattle.test_uses.proofs.QuoteFaults.{no_fault}
use Rattle.test_uses.proofs.line_escapes.line_unescape_in.Goals as goal

pub returns : goal.returns
returns g c =
    let P = g.E.Platform in
    let s = bytes c.args.string in
    let text = c.args.known.now in
    let formed = c.args.string.ok in
    ok_and c.write_unescaped_line.result c.write_unescaped_line.ensures.string c.write_unescaped_line.ensures.fault c.write_unescaped_line.ensures.never_memory
    (no_fault Line P.well_formed P.units s text formed c.requires (λ n. c.line_escapes.ensures.never_bad s text n formed c.requires))
    (λ count is. subst (λ x. IsTruncated x c.args.buffer.now c.write_unescaped_line.new.buffer count) (sym (is.only s formed c.requires)) is.written)
