-- The pieces of a list are one more than the matches between them.
use Rattle.std.proofs.Common.{◌≡◌, ℕ, ◌+◌, ◌-◌, ◌<◌, ◌≤◌, List, [], ◌∷◌, ◌++◌, length, refl, sym, ap, ◌∙◌, subst, arith, append_assoc, length-append}
use Rattle.os_str_ext.specs.Pieces.{IsSplit, whole, cut}
use Rattle.wtf8_core.specs.Occurrence.{OccursAt}
use Rattle.test_uses.specs.Matches.{IsNextMatch, AreMatches, none, next}
use Rattle.test_uses.proofs.PiecesFromBothEnds.{in_second}

module _ (p : List ℕ) (some : 0 < length p) (all : List ℕ) where
  -- what occurs after a prefix occurs in the rest
  in_rest : (before s : List ℕ) → all ≡ before ++ s → (j : ℕ) → length before ≤ j → OccursAt p all j → OccursAt p s (j - length before)
  in_rest before s e j far st = in_second p some before s j (subst (λ x. OccursAt p x j) e st) far

  pub one_more : (before s : List ℕ) (pieces : List (List ℕ)) → all ≡ before ++ s → IsSplit p s pieces → (matches : List ℕ) × (AreMatches p all (length before) matches × (length pieces ≡ length matches + 1))
  one_more before s _ e (whole w) = ([], (none (λ j far st. w _ (in_rest before s e j far st)), refl))
  one_more before s _ e (cut {piece = piece} {rest = rest} {pieces = others} c falls) =
      let at = before ++ piece in
      let joined : all ≡ at ++ (p ++ rest) = e ∙ ap (λ x. before ++ x) c.joined ∙ sym (append_assoc before piece (p ++ rest)) in
      let size : length at ≡ length before + length piece = length-append before piece in
      let later = one_more (at ++ p) rest others (joined ∙ sym (append_assoc at p rest)) falls in
      let count = later.1.1 in
      let here : IsNextMatch p all (length before) (length at) = record {
        occurs = record { before = at; after = rest; joined = joined; index = refl };
        from = omega (arith, size);
        first = λ j far l st. c.found.least (j - length before) (omega (arith, size, far, l)) (in_rest before s e j far st);
      } in
      (length at ∷ later.0, (next here (subst (λ n. AreMatches p all n later.0) (length-append at p) later.1.0), omega (arith, count)))
