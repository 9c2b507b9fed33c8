use Rattle.osbytes_c.proofs.lemmas.Lines.{WordsSoFar}
use Rattle.osbytes_c.proofs.lines.shell_words.write_words.Given as goal

-- the words so far
abbrev pub invariant-loop-item : goal.invariant-loop-item
invariant-loop-item l = WordsSoFar l.fn.words l.item-iterator l.fn.out l.out l.count
