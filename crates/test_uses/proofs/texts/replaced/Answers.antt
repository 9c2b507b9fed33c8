use Rattle.std.proofs.Common.{sym, subst}
use Rattle.wtf8_core.specs.Covered.{StartsWithNoCharacter}
use Rattle.test_uses.proofs.texts.replaced.Goals as goal

pub lossy_len-requires-clause-uncovered : goal.lossy_len-requires-clause-uncovered
lossy_len-requires-clause-uncovered g c = subst StartsWithNoCharacter (sym c.as_encoded_bytes.ensures.value) c.requires.uncovered
