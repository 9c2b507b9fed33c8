use Rattle.std.proofs.Common.{◌≡◌, ◌<◌, ◌++◌, map, length}
use Rattle.std.specs.List.{AllByRecursion}
use Rattle.wildcards.proofs.lemmas.Literals.{literal_piece}
use Rattle.wildcards.proofs.literal.literal_text.Given as goal

abbrev pub invariant-loop-first : goal.invariant-loop-first
invariant-loop-first g l = (l.pieces ≡ map literal_piece l.text.items ++ l.left) × AllByRecursion (λ b. b < 0x80) l.text.items

abbrev pub decreases-loop-first : goal.decreases-loop-first
decreases-loop-first g l = length l.left
