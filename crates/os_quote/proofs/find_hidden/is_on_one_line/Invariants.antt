use Rattle.os_quote.proofs.Common.{length, shadow, Utf8}
use Rattle.std.proofs.Common.{◌↔◌}
use Rattle.os_quote.specs.Shown.{IsOnOneLine}
use Rattle.os_quote.proofs.find_hidden.is_on_one_line.Given as goal

abbrev pub invariant-loop-character : goal.invariant-loop-character
invariant-loop-character l = shadow (Utf8 l.rest) × (IsOnOneLine l.rest ↔ IsOnOneLine l.fn.text)

abbrev pub decreases-loop-character : goal.decreases-loop-character
decreases-loop-character l = length l.rest
