use Rattle.names_commands.proofs.lemmas.Words.{IsBegun}
use Rattle.names_commands.proofs.words.push_names.Given as goal

abbrev pub invariant-loop-word : goal.invariant-loop-word
invariant-loop-word g l = IsBegun l.fn.list l.fn.line l.word-iterator l.fn.names.items l.names.items
