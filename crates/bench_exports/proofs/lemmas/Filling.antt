-- A list that is filled from its start.
use Rattle.std.proofs.Common.{◌≡◌, ℕ, ◌+◌, ◌<◌, List, [], ◌∷◌, ◌++◌, length, take, drop, set, subst, sym, ap, ◌∙◌, arith}
use Rattle.std.proofs.lemmas.List.{take_more_set, drop-set-lt, drop-drop, length-set}
use Rattle.bench_exports.specs.Answers.{IsFilled}

-- one more item is written after the others
pub one_more : (Wanted Then : List ℕ → Type 0) (old new : List ℕ) (count x : ℕ)
    → ((done : List ℕ) → Wanted done → Then (done ++ x ∷ [])) → count < length new
    → IsFilled Wanted old new count → IsFilled Then old (set new count x) (count + 1)
one_more Wanted Then old new count x step room filled = record {
  same_length = length-set new count x ∙ filled.same_length;
  within = let same : length (set new count x) ≡ length new = length-set new count x in omega arith;
  prefix = subst Then (sym (take_more_set new count x room)) (step (take count new) filled.prefix);
  after =
      drop-set-lt (count + 1) new count x (omega arith)
      ∙ sym (drop-drop 1 count new) ∙ ap (drop 1) filled.after ∙ drop-drop 1 count old;
}

pub same_filled : (Wanted Then : List ℕ → Type 0) (old new : List ℕ) (count : ℕ) → ((done : List ℕ) → Wanted done → Then done)
    → IsFilled Wanted old new count → IsFilled Then old new count
same_filled Wanted Then old new count step filled = record {
  same_length = filled.same_length;
  within = filled.within;
  prefix = step (take count new) filled.prefix;
  after = filled.after;
}
