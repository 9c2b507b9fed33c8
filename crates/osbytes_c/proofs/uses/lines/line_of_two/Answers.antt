use Rattle.std.proofs.Common.{◌≡◌, [], ◌∷◌, ◌++◌, append-nil, inl, sym, subst, take, arith}
use Rattle.wtf8_core.specs.UnitsOf.{units_of}
use Rattle.os_command_line.specs.Windows.{IsCommandLine}
use Rattle.osbytes_c.specs.CommandLines.{quoted_name}
use Rattle.osbytes_c.proofs.lemmas.Built.{there}
use Rattle.osbytes_c.proofs.uses.lines.line_of_two.Goals as goal

pub returns : goal.returns
returns c =
    let named : c.osb_core_windows_quote_name.result ≡ 0 = omega arith in
    let quoted : c.osb_core_windows_quote.result ≡ 0 = omega arith in
    let name = units_of c.args.name.now in
    let argument = units_of c.args.argument.now in
    let text = take c.osb_core_windows_quote.new.count c.osb_core_windows_quote.new.out in
    let first = there (c.osb_core_windows_quote_name.ensures.written.0 named) in
    let second = there (c.osb_core_windows_quote.ensures.written.0 quoted) in
    let plain = (c.osb_core_windows_quote_name.ensures.name (inl named)).1.1 in
    subst (λ x. IsCommandLine (x ++ 0x20 ∷ text) name (argument ∷ [])) (sym first)
    (subst (λ x. IsCommandLine (quoted_name name ++ 0x20 ∷ x) name (argument ∷ [])) (append-nil text)
    (c.command_lines.ensures name (argument ∷ []) (text ∷ []) plain (second.0, tt)))
