use Rattle.std.proofs.Common.{subst}
use Rattle.wtf8_core.specs.Occurrence.{Finds, IsFirstIndex}
use Rattle.platform_str.specs.Strings.{bytes}
use Rattle.test_uses.proofs.patterns.found_by_each.Goals as goal

pub returns-clause-of_char : goal.returns-clause-of_char
returns-clause-of_char g c = subst (λ p. Finds IsFirstIndex p (bytes c.args.string) c.find.result) c.patterns.ensures.of_char c.find.ensures.bytes
