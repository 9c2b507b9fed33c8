use Rattle.std.proofs.Common.{◌≡◌, ◌+◌, ◌≤◌, List, ◌++◌, length, IfSome}
use Rattle.osbytes_c.specs.declared.paths.part_list.Part.{Part}
use Rattle.osbytes_c.specs.PathParts.{parts_in, IsLastOf}
use Rattle.osbytes_c.proofs.paths.parts.last_in_body.Given as goal

-- the last of the components so far, and those of what is left
abbrev pub invariant-loop-part : goal.invariant-loop-part
invariant-loop-part l =
    (done : List Part) × (IsLastOf done l.last
    × ((parts_in l.rules l.at l.body ≡ done ++ parts_in l.rules l.from l.left)
    × (IfSome l.last (λ p. (p.start ≤ p.end) × (p.end ≤ l.at + length l.body)) × (l.from + length l.left ≤ l.at + length l.body))))

abbrev pub decreases-loop-part : goal.decreases-loop-part
decreases-loop-part l = length l.left
