-- Each string has pieces from its start and from its end, and one cut at most from either.
use Rattle.std.proofs.Common.{◌≡◌, ℕ, zero, suc, ◌+◌, ◌<◌, List, [], ◌∷◌, ◌++◌, length, take, drop, Option, None, Some, MatchOption, refl, sym, ap, ◌∙◌, arith, inl, inr, ◌⊎◌, ⊎_elim, length-append}
use Rattle.std.proofs.lemmas.{Bool.cases_eq, Bool.cases_lt, Bool.cases_Bool, Bool.false≢true, List.append_cancel_left, List.take_at, List.drop_at}
use Rattle.memchr.specs.Find.{IsFirst, IsLast, FindsNeedle, FindsLastNeedle, OccursAt as NeedleOccursAt, occurs_at}
use Rattle.memchr.proofs.lemmas.{MatchLemmas.OccursAt-true, MatchLemmas.occurs_at-true, FindLemmas.NoneBefore-wider, FindLemmas.Nowhere-more}
use Rattle.wtf8_core.specs.Occurrence.{OccursNowhere, IsFirstIndex, IsLastIndex}
use Rattle.os_str_ext.specs.{Pieces.SplitsInto.whole, Pieces.SplitsInto.cut, Cuts.FirstCut, Cuts.LastCut, Cuts.ArePieces, Cuts.PiecesOf, Cuts.CutLaws}
use Rattle.os_str_ext.specs.Occurrences.{first_index_of_needle, last_index_of_needle, parts_around}

-- a cut of s as the piece and the rest, or that p doesn't occur
abbrev CutOrNone : (List ℕ → List ℕ → List ℕ → List ℕ → Type 0) → List ℕ → List ℕ → Type 0
CutOrNone Cuts p s = (r : Option (List ℕ × List ℕ)) × MatchOption r (OccursNowhere p s) (λ c. Cuts p s c.0 c.1)

-- each index is tried in turn
module _ (p s : List ℕ) where
  here : (n : ℕ) → NeedleOccursAt s p n ⊎ ¬ (NeedleOccursAt s p n)
  here n = ⊎_elim (λ yes. inl (OccursAt-true s p n yes)) (λ no. inr (λ o. false≢true (sym no ∙ occurs_at-true s p n o))) (cases_Bool (occurs_at s p n))

  first_below : (n : ℕ) → (r : Option ℕ) × IsFirst (NeedleOccursAt s p) 0 n r
  first_below zero = (None, λ k low high. absurd (omega arith))
  first_below (suc n) =
      let before = first_below n in
      elim before.0 as (λ r. IsFirst (NeedleOccursAt s p) 0 n r → (r : Option ℕ) × IsFirst (NeedleOccursAt s p) 0 (suc n) r) [
        | None ↦ λ none. ⊎_elim (λ o. (Some n, (record { low = omega arith; high = omega arith; before = none }, o))) (λ not. (None, λ k low high. Nowhere-more none not k low (omega arith))) (here n)
        | Some k ↦ λ found. (Some k, (NoneBefore-wider (suc n) (omega arith) found.0, found.1))
      ] before.1

  last_below : (n : ℕ) → (r : Option ℕ) × IsLast (NeedleOccursAt s p) 0 n r
  last_below zero = (None, λ k low high. absurd (omega arith))
  last_below (suc n) =
      let before = last_below n in
      ⊎_elim
      (λ o. (Some n, (record { low = omega arith; high = omega arith; after = λ k low high. absurd (omega arith) }, o)))
      (λ not. elim before.0 as (λ r. IsLast (NeedleOccursAt s p) 0 n r → (r : Option ℕ) × IsLast (NeedleOccursAt s p) 0 (suc n) r) [
        | None ↦ λ none. (None, λ k low high. Nowhere-more none not k low (omega arith))
        | Some k ↦ λ found. let high = found.0.high in (Some k, (record { low = omega arith; high = omega arith; after = λ m low high. Nowhere-more found.0.after not m low (omega arith) }, found.1))
      ] before.1)
      (here n)

  find_first : CutOrNone FirstCut p s
  find_first =
      let found = first_below (length s + 1) in
      elim found.0 as (λ r. FindsNeedle s p 0 r → CutOrNone FirstCut p s) [
        | None ↦ λ f. (None, first_index_of_needle s p None f)
        | Some i ↦ λ f. let first = first_index_of_needle s p (Some i) f in (Some (take i s, drop (i + length p) s), parts_around IsFirstIndex p s _ _ i first first.occurs refl refl)
      ] found.1

  find_last : CutOrNone LastCut p s
  find_last =
      let found = last_below (length s + 1) in
      elim found.0 as (λ r. FindsLastNeedle s p r → CutOrNone LastCut p s) [
        | None ↦ λ f. (None, last_index_of_needle s p None f)
        | Some i ↦ λ f. let last = last_index_of_needle s p (Some i) f in (Some (drop (i + length p) s, take i s), parts_around IsLastIndex p s _ _ i last last.occurs refl refl)
      ] found.1

-- cutting ends if each rest is shorter than the string that was cut
module _ (Cuts : List ℕ → List ℕ → List ℕ → List ℕ → Type 0) (find : (p s : List ℕ) → CutOrNone Cuts p s) (shorter : (p s piece rest : List ℕ) → 0 < length p → Cuts p s piece rest → length rest < length s) where
  pieces_within : (n : ℕ) (p s : List ℕ) → 0 < length p → length s < n → (pieces : List (List ℕ)) × ArePieces Cuts p s pieces
  pieces_within zero p s some less = absurd (omega arith)
  pieces_within (suc n) p s some less =
      elim (find p s).0 as (λ r. MatchOption r (OccursNowhere p s) (λ c. Cuts p s c.0 c.1) → (pieces : List (List ℕ)) × ArePieces Cuts p s pieces) [
        | None ↦ λ n. (s ∷ [], whole n)
        | Some c ↦ λ f.
            let shorter_rest = shorter p s c.0 c.1 some f in
            let more = pieces_within n p c.1 some (omega arith) in
            (c.0 ∷ more.0, cut f more.1)
      ] (find p s).1

  pieces_of : PiecesOf Cuts
  pieces_of p s =
      ⊎_elim
      (λ none. ([], λ some. absurd (omega arith)))
      (λ some. let found = pieces_within (suc (length s)) p s (omega arith) (omega arith) in (found.0, λ _. found.1))
      (cases_eq (length p) 0)

pub pieces_from_start : PiecesOf FirstCut
pieces_from_start = pieces_of FirstCut find_first (λ p s piece rest some c.
    let size = ap length c.joined ∙ length-append piece (p ++ rest) in
    let back = length-append p rest in
    omega arith)

pub pieces_from_end : PiecesOf LastCut
pieces_from_end = pieces_of LastCut find_last (λ p s piece rest some c.
    let size = ap length c.joined ∙ length-append rest (p ++ piece) in
    let back = length-append p piece in
    omega arith)

-- two cuts at one index are the same
same_parts : (p s a b c d : List ℕ) → s ≡ a ++ (p ++ b) → s ≡ c ++ (p ++ d) → length a ≡ length c → (a ≡ c) × (b ≡ d)
same_parts p s a b c d e f same =
    let prefix : a ≡ c = sym (take_at a (p ++ b) (length a) refl) ∙ ap (take (length a)) (sym e ∙ f) ∙ take_at c (p ++ d) (length a) (sym same) in
    let suffix : p ++ b ≡ p ++ d = sym (drop_at a (p ++ b) (length a) refl) ∙ ap (drop (length a)) (sym e ∙ f) ∙ drop_at c (p ++ d) (length a) (sym same) in
    (prefix, append_cancel_left p b d suffix)

pub cuts_from_start : CutLaws FirstCut
cuts_from_start = record {
  one = λ p s a b c d h k.
      same_parts p s a b c d h.joined k.joined (⊎_elim
      (λ lt. absurd (k.found.least (length a) lt h.found.occurs))
      (λ ge. ⊎_elim (λ lt. absurd (h.found.least (length c) lt k.found.occurs)) (λ le. omega arith) (cases_lt (length c) (length a)))
      (cases_lt (length a) (length c)));
  occurs = λ p s piece rest c n. n (length piece) c.found.occurs;
}

pub cuts_from_end : CutLaws LastCut
cuts_from_end = record {
  one = λ p s a b c d h k.
      let same = same_parts p s b a d c h.joined k.joined (⊎_elim
      (λ lt. absurd (h.found.greatest (length d) lt k.found.occurs))
      (λ ge. ⊎_elim (λ lt. absurd (k.found.greatest (length b) lt h.found.occurs)) (λ le. omega arith) (cases_lt (length d) (length b)))
      (cases_lt (length b) (length d))) in
      (same.1, same.0);
  occurs = λ p s piece rest c n. n (length rest) c.found.occurs;
}
