use Rattle.std.proofs.Common.{◌≢◌, arith}
use Rattle.os_command_line.specs.Windows.{quote}
use Rattle.os_command_line.proofs.lemmas.WindowsStrings.{each_unit}
use Rattle.osbytes_c.proofs.lines.windows_name.osb_core_windows_quote_name.Goals as goal

pub returns-clause-name : goal.returns-clause-name
returns-clause-name c = λ written.
    let word = c.in-Ok.ensures.string in
    (word.0, (word.1, each_unit (λ u. u ≢ quote) (λ x past e. omega (arith, past, e)) c.args.name.now word.0 c.in_default.ensures))
