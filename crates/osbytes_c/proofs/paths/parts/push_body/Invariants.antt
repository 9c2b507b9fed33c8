use Rattle.std.proofs.Common.{◌≡◌, ◌+◌, ◌≤◌, List, ◌++◌, length}
use Rattle.osbytes_c.specs.declared.paths.part_list.Part.{Part}
use Rattle.osbytes_c.specs.PathParts.{parts_in}
use Rattle.osbytes_c.specs.PartBuffers.{PushesPart}
use Rattle.osbytes_c.proofs.paths.parts.push_body.Given as goal

-- the components so far, and those of what is left
abbrev pub invariant-loop-part : goal.invariant-loop-part
invariant-loop-part l =
    (done : List Part) × (PushesPart done l.fn.out l.fn.count l.out l.written
    × ((parts_in l.rules l.at l.body ≡ done ++ parts_in l.rules l.from l.left)
    × ((l.written ≤ l.from + 2) × (l.from + length l.left ≤ l.at + length l.body))))

abbrev pub decreases-loop-part : goal.decreases-loop-part
decreases-loop-part l = length l.left
