-- The sizes of choices, and their limits.
use Rattle.std.proofs.Common.{◌≡◌, ◌↔◌, ◌⊎◌, inl, inr, ⊎_elim, ℕ, ◌+◌, ◌<◌, Bool, true, false, List, [], ◌∷◌, ◌++◌, length, sym, ap, ◌∙◌, subst, arith, length-append, IsTrue}
use Rattle.std.proofs.lemmas.List.{length-map}
use Rattle.glob_text.specs.declared.size.Size.{Size}
use Rattle.glob_text.specs.Marks.{Mark}
use Rattle.glob_text.specs.Braces.{are_balanced}
use Rattle.glob_text.specs.Alternatives.{mark_count, most_choices, most_marks, AreChoices, AreTooLarge, AreWithinLimits}
use Rattle.glob_text.specs.Backwards.{each_after, choices_behind, at_end}
use Rattle.glob_text.specs.Sizes.{in_word, size_of, both_sizes, with_mark, nothing_size}
use Rattle.glob_text.proofs.lemmas.Backwards.{found_behind}
use Rattle.glob_text.proofs.lemmas.Choices.{some_choices}

abbrev size : ℕ → ℕ → Size
size choices marks = record { choices = choices; marks = marks }

sizes_alike : (a b c d : ℕ) → a ≡ c → b ≡ d → size a b ≡ size c d
sizes_alike a b c d e f = ap (λ z. size z b) e ∙ ap (λ z. size c z) f

abbrev nothing : (X : Type 0) → List (List X)
nothing X = [] ∷ []

pub size_nothing : (X : Type 0) → nothing_size ≡ size_of (nothing X)
size_nothing X = sizes_alike _ _ _ _ (omega arith) (omega arith)

word_sum : (a b : ℕ) → in_word (a + b) ≡ in_word (in_word a + in_word b)
word_sum a b = omega arith

module _ {X : Type 0} where
  marks_both : (cs ds : List (List X)) → mark_count (cs ++ ds) ≡ mark_count cs + mark_count ds
  marks_both [] ds = let h : mark_count ds ≡ 0 + mark_count ds = omega arith in h
  marks_both (c ∷ cs) ds = let h = marks_both cs ds in omega (arith, h)

  marks_each : (x : X) (cs : List (List X)) → mark_count (each_after x cs) ≡ mark_count cs + length cs
  marks_each x [] = omega arith
  marks_each x (c ∷ cs) = let h = marks_each x cs in omega (arith, h)

  pub size_both : (cs ds : List (List X)) → size_of (cs ++ ds) ≡ both_sizes (size_of cs) (size_of ds)
  size_both cs ds =
      sizes_alike _ _ _ _ (ap in_word (length-append cs ds) ∙ word_sum (length cs) (length ds)) (ap in_word (marks_both cs ds) ∙ word_sum (mark_count cs) (mark_count ds))

  pub size_each : (x : X) (cs : List (List X)) → size_of (each_after x cs) ≡ with_mark (size_of cs)
  size_each x cs =
      sizes_alike _ _ _ _ (ap in_word (length-map cs (λ c. x ∷ c))) (ap in_word (marks_each x cs) ∙ word_sum (mark_count cs) (length cs))

-- the marks are written out as what is found behind them
pub choices_are : (marks : List Mark) → are_balanced 0 marks ≡ true → AreChoices marks (choices_behind marks at_end).current
choices_are marks balanced =
    let some = some_choices marks balanced in
    subst (AreChoices marks) (sym (found_behind marks some.0 some.1)) some.1

module _ (cs : List (List Mark)) (size : Size) (e : size ≡ size_of cs) (large : Bool) (t : IsTrue large ↔ ((most_choices < size.choices) ⊎ ((1 < size.choices) × (most_marks < size.marks)))) where
  c : size.choices ≡ in_word (length cs)
  c = ap (λ z. z.choices) e

  m : size.marks ≡ in_word (mark_count cs)
  m = ap (λ z. z.marks) e

  pub too_large : large ≡ true → AreTooLarge cs
  too_large h = ⊎_elim (λ l. inl (omega (arith, l, c))) (λ l. inr (let a = l.0 in omega (arith, a, c), let b = l.1 in omega (arith, b, m))) (t.0 h)

  pub within_limits : large ≡ false → AreWithinLimits cs
  within_limits h =
      let few : ¬ (most_choices < size.choices) = λ l. (let never : false ≡ true = sym h ∙ t.1 (inl l) in cc) in
      let small : 1 < size.choices → ¬ (most_marks < size.marks) = λ l k. (let never : false ≡ true = sym h ∙ t.1 (inr (l, k)) in cc) in
      record { choices = omega (arith, few, c); marks = λ l. (let s = small (omega (arith, l, c)) in omega (arith, s, m)) }
