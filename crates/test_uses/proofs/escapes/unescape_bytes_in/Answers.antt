use Rattle.std.proofs.Common.{sym, subst}
use Rattle.wtf8_core.specs.Truncated.{IsTruncated}
use Rattle.os_quote.specs.declared.form.Form.TheVariants.{Text}
use Rattle.platform_str.specs.Strings.{bytes}
use Rattle.test_uses.proofs.Outcomes.{some_ok_and}
use Rattle.test_uses.proofs.QuoteFaults.{no_fault}
use Rattle.test_uses.proofs.escapes.unescape_bytes_in.Goals as goal

pub returns : goal.returns
returns g c =
    let P = g.E.Platform in
    let s = bytes c.args.string in
    let escape = c.args.known.now in
    let formed = c.args.string.ok in
    some_ok_and _ _ _ _ _ c.write_unescaped_bytes.result c.write_unescaped_bytes.ensures.read (λ none. none (c.escapes.ensures.utf8 s escape formed c.requires))
    (no_fault Text P.well_formed P.units s escape formed c.requires (λ n. c.bad_escapes.ensures.never s escape n formed c.requires))
    (λ count is. subst (λ x. IsTruncated x c.args.buffer.now c.write_unescaped_bytes.new.buffer count) (sym (is.only s formed c.requires)) is.written)
