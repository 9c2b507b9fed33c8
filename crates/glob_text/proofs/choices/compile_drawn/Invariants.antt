use Rattle.std.proofs.Common.{◌+◌, ◌∷◌, map, reverse}
use Rattle.glob_text.specs.Backwards.{choices_behind, at_end}
use Rattle.glob_text.specs.Chosen.{indices_of}
use Rattle.glob_text.specs.Marks.{mark_of}
use Rattle.glob_text.specs.Nodes.{opened_of}
use Rattle.glob_text.proofs.lemmas.Written.{weight, weights, IsWriting}
use Rattle.glob_text.proofs.choices.compile_drawn.Given as goal

abbrev pub invariant-loop-written : goal.invariant-loop-written
invariant-loop-written g l =
    IsWriting (map mark_of l.marks) l.drawing.nodes.items (choices_behind (map mark_of l.marks) at_end).current
    (record { opened = opened_of l.one ∷ reverse (map opened_of l.opened.items); written = indices_of l.written.items })

abbrev pub decreases-loop-written : goal.decreases-loop-written
decreases-loop-written g l = weight l.one.node + weights (reverse (map opened_of l.opened.items))
