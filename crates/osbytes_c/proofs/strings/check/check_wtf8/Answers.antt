use Rattle.std.proofs.Common.{arith}
use Rattle.platform_str.specs.platforms.Windows.{windows_laws}
use Rattle.osbytes_c.proofs.strings.check.check_wtf8.Goals as goal

pub returns-in-Err-clause-string : goal.returns-in-Err-clause-string
returns-in-Err-clause-string c = (λ is. absurd (omega (arith, is)), λ formed. absurd (windows_laws.faulty _ _ c.in-Err.ensures formed))
