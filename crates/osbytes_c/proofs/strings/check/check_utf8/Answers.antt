use Rattle.std.proofs.Common.{arith}
use Rattle.wtf8_core.specs.declared.fault.EncodingError.TheVariants.{Utf8}
use Rattle.platform_str.specs.platforms.Wasm.{wasm_laws}
use Rattle.osbytes_c.proofs.strings.check.check_utf8.Goals as goal

pub returns-in-Some-len-clause-string : goal.returns-in-Some-len-clause-string
returns-in-Some-len-clause-string c = (λ is. absurd (omega (arith, is)), λ text. absurd (wasm_laws.faulty _ (Utf8 _ _) c.in-Some.ensures text))

pub returns-in-None-clause-string : goal.returns-in-None-clause-string
returns-in-None-clause-string c = (λ is. absurd (omega (arith, is)), λ text. absurd (wasm_laws.faulty _ (Utf8 _ _) c.in-Some.ensures text))
