use Rattle.std.proofs.Common.{length, refl, arith}
use Rattle.osbytes_c.specs.Lines.{language_of}
use Rattle.osbytes_c.proofs.lemmas.Lines.{words_fit, fault_of}
use Rattle.osbytes_c.proofs.lines.shell_words.osb_core_shell_words.Goals as goal

pub write_words-requires : goal.write_words-requires
write_words-requires c = omega (arith, words_fit (language_of c.args.options) (length c.args.line.now) c.args.line.now c.in-Some.words c.in-Some.ensures.1, c.if-line.false)

pub returns-in-Err-clause-fault : goal.returns-in-Err-clause-fault
returns-in-Err-clause-fault c = λ is. fault_of (language_of c.args.options) c.args.line.now c.in-Some.words c.in-Some.ensures.1 c.in-Err.found _ c.in-Err.ensures c.kind_number.ensures refl
