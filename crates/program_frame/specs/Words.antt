-- The words of a program.
use Rattle.std.specs.Prelude.{ℕ, List, drop, map, String, string_bytes}
use Rattle.std.specs.Vec.Iter.{into_iter_items}
use Rattle.std.specs.declared.vec.IntoIter.{IntoIter}

-- the words after the first of the arguments, which is the program's name
abbrev pub words_after_name : {A : Type 0} → IntoIter (String A) A → List (List ℕ)
words_after_name args = map string_bytes (drop 1 (into_iter_items args))
