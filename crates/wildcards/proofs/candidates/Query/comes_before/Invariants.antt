use Rattle.std.proofs.Common.{ℕ, List, take}
use Rattle.wildcards.specs.Candidates.{left_keys, path_keys}
use Rattle.wildcards.specs.Sets.{Has}
use Rattle.wildcards.proofs.candidates.Query.comes_before.Given as goal

abbrev pub invariant-loop-left : goal.invariant-loop-left
invariant-loop-left g l = (key : List ℕ) → Has (take l.left (left_keys l.self l.stage)) key → Has (take l.count (path_keys l.self)) key

abbrev pub decreases-loop-left : goal.decreases-loop-left
decreases-loop-left g l = l.left
