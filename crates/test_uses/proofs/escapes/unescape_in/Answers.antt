use Rattle.std.proofs.Common.{sym, subst}
use Rattle.wtf8_core.specs.Truncated.{IsTruncated}
use Rattle.os_quote.specs.declared.form.Form.TheVariants.{Text}
use Rattle.platform_str.specs.Strings.{bytes}
use Rattle.test_uses.proofs.Outcomes.{ok_and}
use Rattle.test_uses.proofs.QuoteFaults.{no_fault}
use Rattle.test_uses.proofs.escapes.unescape_in.Goals as goal

pub returns : goal.returns
returns g c =
    let P = g.E.Platform in
    let s = bytes c.args.string in
    let text = c.args.known.now in
    let formed = c.args.string.ok in
    ok_and c.write_unescaped.result c.write_unescaped.ensures.string c.write_unescaped.ensures.fault c.write_unescaped.ensures.never_memory
    (no_fault Text P.well_formed P.units s text formed c.requires (λ n. c.bad_escapes.ensures.never s text n formed c.requires))
    (λ count is. subst (λ x. IsTruncated x c.args.buffer.now c.write_unescaped.new.buffer count) (sym (is.only s formed c.requires)) is.written)
