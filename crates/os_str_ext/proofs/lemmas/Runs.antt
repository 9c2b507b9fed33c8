-- Runs of a text: lists that are the text repeated.
use Rattle.os_str_ext.proofs.Common.{◌≡◌, ℕ, zero, suc, ◌+◌, ◌-◌, ◌<◌, ◌≤◌, List, ◌++◌, length, take, drop, refl, sym, ap, subst, ◌∙◌, arith, inl, inr, append_assoc, length-append, length-drop, take-append-drop, append-nil, length-take-le, drop-drop, take-add, repeat, IsUtf8, NeedleOccursAt, OccursAt-part, OccursAt-from_part, OccursAt, IsBoundary}
use Rattle.os_str_ext.specs.Pieces.{IsStartTrim, IsEndTrim}
use Rattle.os_str_ext.proofs.lemmas.{Comparing.take_from_prefix, Comparing.prefix_fits, Searches.EdgesOfTexts, Searches.needle_from_occurs}

-- one more repetition at the start is one more at the end
pub repeat-after : (p : List ℕ) (n : ℕ) → repeat n p ++ p ≡ repeat (suc n) p
repeat-after p zero = sym (append-nil p)
repeat-after p (suc n) = append_assoc p (repeat n p) p ∙ ap (λ r. p ++ r) (repeat-after p n)

-- x is p repeated some number of times
abbrev pub IsRun : List ℕ → List ℕ → Type 0
IsRun p x = (n : ℕ) × (x ≡ repeat n p)

module _ (s p : List ℕ) (i : ℕ) (le : i ≤ length s) where
  -- if the text doesn't occur after a run at the start, what follows the run is the start trim
  pub start_trim : IsRun p (take i s) → ¬ (NeedleOccursAt s p i) → IsStartTrim p s (drop i s)
  start_trim run none = record {
    count = run.0;
    trimmed = sym (take-append-drop i s) ∙ ap (λ r. r ++ drop i s) run.1;
    done = λ prefix.
        let fits = prefix_fits p (drop i s) prefix in
        let size = length-drop i s in
        none (OccursAt-from_part s p i (omega arith) (take_from_prefix p (drop i s) prefix));
  }

  pub end_trim : IsRun p (drop i s) → (length p ≤ i → ¬ (NeedleOccursAt s p (i - length p))) → IsEndTrim p s (take i s)
  end_trim run none = record {
    count = run.0;
    trimmed = sym (take-append-drop i s) ∙ ap (λ r. take i s ++ r) run.1;
    done = λ end.
        let size : i ≡ length end.rest + length p = sym (length-take-le i s le) ∙ ap length end.joined ∙ length-append end.rest p in
        let index : length end.rest ≡ i - length p = omega arith in
        none (omega arith) (subst (NeedleOccursAt s p) index (needle_from_occurs s p (length end.rest) (record {
          before = end.rest;
          after = drop i s;
          joined = sym (take-append-drop i s) ∙ ap (λ r. r ++ drop i s) end.joined ∙ append_assoc end.rest p (drop i s);
          index = refl;
        })));
  }

  -- and the string may be cut there
  pub cut_after_run : EdgesOfTexts → IsUtf8 p → 0 < length p → (n : ℕ) → s ≡ repeat n p ++ drop i s → IsBoundary s i
  cut_after_run edges u some zero e =
      let size : length s ≡ length (drop i s) = ap length e in
      let left = length-drop i s in
      record { is = inl (omega arith) }
  cut_after_run edges u some (suc n) e =
      let size : length s ≡ length (repeat (suc n) p) + length (drop i s) = ap length e ∙ length-append (repeat (suc n) p) (drop i s) in
      let left = length-drop i s in
      let more : length (repeat n p) + length p ≡ length (repeat (suc n) p) = sym (length-append (repeat n p) p) ∙ ap length (repeat-after p n) in
      let occurs : OccursAt p s (length (repeat n p)) = record {
        before = repeat n p;
        after = drop i s;
        joined = e ∙ ap (λ r. r ++ drop i s) (sym (repeat-after p n)) ∙ append_assoc (repeat n p) p (drop i s);
        index = refl;
      } in
      subst (IsBoundary s) (omega arith) (edges p s (length (repeat n p)) u some occurs).1

  pub cut_before_run : EdgesOfTexts → IsUtf8 p → 0 < length p → (n : ℕ) → s ≡ take i s ++ repeat n p → IsBoundary s i
  cut_before_run edges u some zero e =
      let size : length s ≡ length (take i s) = ap length (e ∙ append-nil (take i s)) in
      let left = length-take-le i s le in
      record { is = inr (inl (omega arith)) }
  cut_before_run edges u some (suc n) e = (edges p s i u some (record { before = take i s; after = repeat n p; joined = e; index = length-take-le i s le })).0

module _ (s p : List ℕ) (i : ℕ) where
  -- one more repetition after a run at the start, and one before a run at the end
  pub passed_more : (n : ℕ) → take i s ≡ repeat n p → NeedleOccursAt s p i → take (i + length p) s ≡ repeat (suc n) p
  passed_more n e o =
      take-add i (length p) s ∙ ap (λ r. take i s ++ r) (OccursAt-part s p i o) ∙ ap (λ r. r ++ p) e ∙ repeat-after p n

  pub passed_back : (n : ℕ) → drop i s ≡ repeat n p → length p ≤ i → NeedleOccursAt s p (i - length p) → drop (i - length p) s ≡ repeat (suc n) p
  passed_back n e le o =
      let index : i - length p + length p ≡ i = omega arith in
      sym (take-append-drop (length p) (drop (i - length p) s))
      ∙ ap (λ r. r ++ drop (length p) (drop (i - length p) s)) (OccursAt-part s p (i - length p) o)
      ∙ ap (λ r. p ++ r) (drop-drop (length p) (i - length p) s ∙ ap (λ k. drop k s) index ∙ e)
