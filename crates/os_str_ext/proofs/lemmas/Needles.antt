-- Where a needle occurs in a part of a string, and where its first and last occurrences are.
use Rattle.std.proofs.Common.{◌≡◌, ℕ, zero, suc, ◌+◌, ◌-◌, ◌<◌, ◌≤◌, List, ◌∷◌, length, take, drop, Option, Some, None, sym, ap, subst, ◌∙◌, arith, ⊎_elim, length-drop, drop-drop, get_or-take, slice_index, Bool, max}
use Rattle.std.proofs.lemmas.Bool.{cases_Bool, cases_eq, cases_lt, cond-true, cond-false, eq-eqb, false≢true}
use Rattle.std.proofs.lemmas.List.{length-take-le}
use Rattle.std.specs.Option.{option_map}
use Rattle.memchr.specs.{Find.FindsLastNeedle, Find.FindsNeedle, Find.IsFirst, Find.IsFirstByte, Find.IsLast, Find.NoneBefore, Find.NoneAfter, Find.Nowhere, Find.OccursAt as NeedleOccursAt, Find.Passes, Find.TakesFirst, Find.is_byte, Find.places, Find.places_from, Pairs.HasPair, Pairs.IsPairFinderOf, Pairs.reach_of, declared.arch.all.packedpair.Finder.Finder}
use Rattle.memchr.proofs.lemmas.{MatchLemmas.OccursAt-part, MatchLemmas.OccursAt-from_part, FindLemmas.IsLast-agree, FindLemmas.IsLast-wider, FindLemmas.Nowhere-then, FindLemmas.Nowhere-more}

max_below : (a b n : ℕ) → a < n → b < n → max a b < n
max_below a b n x y = omega arith

-- what is first from an index on is first of all if nothing comes before that index
pub first_of_all : (P : ℕ → Type 0) (i j n : ℕ) → i ≤ j → Nowhere P i j → (r : Option ℕ) → IsFirst P j n r → IsFirst P i n r
first_of_all P i j n le none None h = Nowhere-then none h
first_of_all P i j n le none (Some at) h =
    let low = h.0.low in
    (record { low = omega arith; high = h.0.high; before = Nowhere-then none h.0.before }, h.1)

-- what has Q at the same index of what is left from i on comes no earlier than the first Q there
module _ (P Q : ℕ → Type 0) (i n m : ℕ) (to : (k : ℕ) → i ≤ k → P k → (k - i < m) × Q (k - i)) where
  none_later : Nowhere Q 0 m → Nowhere P i n
  none_later none k low high p = none (k - i) (omega arith) (to k low p).0 (to k low p).1

  none_before : (at : ℕ) → i + m ≤ n → NoneBefore Q 0 m at → NoneBefore P i n (i + at)
  none_before at le h =
      let high = h.high in
      record { low = omega arith; high = omega arith; before = λ k low lt p. h.before (k - i) (omega arith) (omega arith) (to k low p).1 }

module _ (s p : List ℕ) where
  -- what occurs at an index or after it occurs in what is left from there
  in_rest : (i k : ℕ) → i ≤ k → NeedleOccursAt s p k → NeedleOccursAt (drop i s) p (k - i)
  in_rest i k le o =
      let index : i + (k - i) ≡ k = omega arith in
      let rest = drop-drop (k - i) i s ∙ ap (λ n. drop n s) index in
      OccursAt-from_part (drop i s) p (k - i) (omega (arith, length-drop i s, o.fits)) (ap (take (length p)) rest ∙ OccursAt-part s p k o)

  from_rest : (i k : ℕ) → i ≤ length s → NeedleOccursAt (drop i s) p k → NeedleOccursAt s p (i + k)
  from_rest i k le o = OccursAt-from_part s p (i + k) (omega (arith, length-drop i s, o.fits)) (ap (take (length p)) (sym (drop-drop k i s)) ∙ OccursAt-part (drop i s) p k o)

  within_rest : (i : ℕ) → (k : ℕ) → i ≤ k → NeedleOccursAt s p k → (k - i < length (drop i s) + 1) × NeedleOccursAt (drop i s) p (k - i)
  within_rest i k le o = let fits = o.fits in (omega (arith, length-drop i s), in_rest i k le o)

  -- so what is found in it is found
  pub first_after : (i : ℕ) → i ≤ length s → (r : Option ℕ) → FindsNeedle (drop i s) p 0 r → FindsNeedle s p i (option_map (λ k. i + k) r)
  first_after i le None f = none_later _ _ i _ _ (within_rest i) f
  first_after i le (Some at) f = (none_before _ _ i _ _ (within_rest i) at (omega (arith, length-drop i s)) f.0, from_rest i at le f.1)

  -- what ends at an index or before it occurs in the bytes before that index
  in_prefix : (e k : ℕ) → e ≤ length s → k + length p ≤ e → NeedleOccursAt s p k → NeedleOccursAt (take e s) p k
  in_prefix e k le ends o =
      let size = length-take-le e s le in
      record { fits = omega arith; reads = λ j below. get_or-take e s (k + j) 0 (omega arith) ∙ o.reads j below }

  from_prefix : (e k : ℕ) → e ≤ length s → NeedleOccursAt (take e s) p k → NeedleOccursAt s p k
  from_prefix e k le o =
      let fits = o.fits in
      let size = length-take-le e s le in
      record { fits = omega arith; reads = λ j below. sym (get_or-take e s (k + j) 0 (omega arith)) ∙ o.reads j below }

  -- no occurrence ends after an index
  abbrev pub EndBy : ℕ → Type 0
  EndBy e = (k : ℕ) → NeedleOccursAt s p k → k + length p ≤ e

  -- so the last one in the bytes before that index is the last of all
  pub last_before : (e : ℕ) → e ≤ length s → EndBy e → (r : Option ℕ) → FindsLastNeedle (take e s) p r → FindsLastNeedle s p r
  last_before e le by r f =
      let there = subst (λ n. IsLast (NeedleOccursAt (take e s) p) 0 (n + 1) r) (length-take-le e s le) f in
      let here = IsLast-agree _ (NeedleOccursAt s p) 0 (e + 1) (λ k _. from_prefix e k le) (λ k _ o. in_prefix e k le (by k o) o) r there in
      IsLast-wider _ 0 (e + 1) _ (omega arith) (λ k o. let ends = by k o in omega arith) r here

  -- a needle that isn't empty ends at its last byte
  last_byte_within : (e k : ℕ) → 0 < length p → k + length p ≤ e → NeedleOccursAt s p k → Passes (is_byte (slice_index p (length p - 1))) (take e s) (k + (length p - 1))
  last_byte_within e k some ends o = eq-eqb _ _ (get_or-take e s (k + (length p - 1)) 0 (omega arith) ∙ o.reads (length p - 1) (omega arith))

  -- so no occurrence ends after the last such byte
  pub none_by_byte : (e : ℕ) → e ≤ length s → 0 < length p → EndBy e → Nowhere (Passes (is_byte (slice_index p (length p - 1))) (take e s)) 0 (length (take e s)) → (k : ℕ) → ¬ (NeedleOccursAt s p k)
  none_by_byte e le some by f k o =
      let ends = by k o in
      let size = length-take-le e s le in
      f (k + (length p - 1)) (omega arith) (omega arith) (last_byte_within e k some ends o)

  pub ends_by_byte : (e at : ℕ) → e ≤ length s → 0 < length p → EndBy e → NoneAfter (Passes (is_byte (slice_index p (length p - 1))) (take e s)) 0 (length (take e s)) at → EndBy (at + 1)
  ends_by_byte e at le some by f k o =
      let ends = by k o in
      let size = length-take-le e s le in
      ⊎_elim
      (λ after. absurd (f.after (k + (length p - 1)) (omega arith) (omega arith) (last_byte_within e k some ends o)))
      (λ by_then. by_then)
      (cases_lt (at + 1) (k + length p))

  -- if one ends there, it is the last; if none does, all end before it
  pub last_there : (at : ℕ) → at ≤ length s → EndBy at → length p ≤ at → NeedleOccursAt s p (at - length p) → IsLast (NeedleOccursAt s p) 0 (length s + 1) (Some (at - length p))
  last_there at le by fits here = (record { low = omega arith; high = omega arith; after = λ k low high o. let ends = by k o in absurd (omega arith) }, here)

  pub ends_before : (at : ℕ) → 0 < length p → EndBy (at + 1) → ((length p ≤ at + 1) × NeedleOccursAt s p (at + 1 - length p) → ⊥) → EndBy at
  ends_before at some by not_there k o =
      let ends = by k o in
      ⊎_elim
      (λ there. let index : k ≡ at + 1 - length p = omega arith in absurd (not_there (omega arith, subst (NeedleOccursAt s p) index o)))
      (λ other. omega arith)
      (cases_eq (k + length p) (at + 1))

module _ (s p : List ℕ) (f : Finder) (is : IsPairFinderOf f p) (i : ℕ) (le : i ≤ length s) where
  -- where a needle occurs, its pair of bytes occurs
  pair_occurs : (k : ℕ) → i ≤ k → NeedleOccursAt s p k → (k - i < length (drop i s) - reach_of f) × HasPair f (drop i s) (k - i)
  pair_occurs k low o =
      let here = in_rest s p i k low o in
      let fits = here.fits in
      let pair = is.pair in
      let reach = max_below f.pair.index1 f.pair.index2 (length p) pair.first pair.second in
      (omega arith, record { first = here.reads f.pair.index1 pair.first ∙ sym is.byte1; second = here.reads f.pair.index2 pair.second ∙ sym is.byte2 })

  -- so where the pair doesn't occur the needle doesn't either, nor before the first index at which the pair does
  pub no_candidate : Nowhere (HasPair f (drop i s)) 0 (length (drop i s) - reach_of f) → Nowhere (NeedleOccursAt s p) i (length s + 1)
  no_candidate = none_later _ _ i _ _ pair_occurs

  pub candidate : (at : ℕ) → NoneBefore (HasPair f (drop i s)) 0 (length (drop i s) - reach_of f) at → NoneBefore (NeedleOccursAt s p) i (length s) (i + at)
  candidate at = none_before _ _ i _ _ pair_occurs at (omega (arith, length-drop i s))

-- what occurs in bytes occurs in what begins with a copy of them
pub in_copy : (s copy p : List ℕ) → NeedleOccursAt copy s 0 → (k : ℕ) → NeedleOccursAt s p k → NeedleOccursAt copy p k
in_copy s copy p begins k o =
    let fits = o.fits in
    let room = begins.fits in
    record { fits = omega arith; reads = λ j below. ap (slice_index copy) (omega arith) ∙ begins.reads (k + j) (omega arith) ∙ o.reads j below }

pub none_in_copy : (s copy p : List ℕ) → NeedleOccursAt copy s 0 → (i j : ℕ) → Nowhere (NeedleOccursAt copy p) i j → Nowhere (NeedleOccursAt s p) i j
none_in_copy s copy p begins i j none k low high o = none k low high (in_copy s copy p begins k o)

-- the first one in the list of the indices that pass a test is the first index that passes it
module _ (test : ℕ → Bool) (hay : List ℕ) where
  taken_here : (i n : ℕ) (later : List ℕ) (r : Option ℕ) (rest : List ℕ) → Passes test hay i → TakesFirst (i ∷ later) r rest → IsFirst (Passes test hay) i (i + suc n) r
  taken_here i n later None rest passes h = let size = ap length h.0 in absurd (omega arith)
  taken_here i n later (Some x) rest passes h =
      let same : i ≡ x = ap (λ l. slice_index l 0) h in
      (record { low = omega arith; high = omega arith; before = λ k low lt. absurd (omega arith) }, subst (Passes test hay) same passes)

  taken_from : (i n : ℕ) (r : Option ℕ) (rest : List ℕ) → TakesFirst (places_from test hay i n) r rest → IsFirst (Passes test hay) i (i + n) r
  unfolding places_from
  taken_from i zero None rest h = λ k low high. absurd (omega arith)
  taken_from i zero (Some x) rest h = let size = ap length h in absurd (omega arith)
  taken_from i (suc n) r rest h =
      ⊎_elim
      (λ has. taken_here i n _ r rest has (subst (λ l. TakesFirst l r rest) (cond-true _ _ _ has) h))
      (λ lacks. first_of_all (Passes test hay) i (i + 1) _ (omega arith) (Nowhere-more (λ k low high. absurd (omega arith)) (λ has. false≢true (sym lacks ∙ has))) r
      (subst (λ m. IsFirst (Passes test hay) (i + 1) m r) (omega arith) (taken_from (i + 1) n r rest (subst (λ l. TakesFirst l r rest) (cond-false _ _ _ lacks) h))))
      (cases_Bool (test (slice_index hay i)))

  pub first_taken : (r : Option ℕ) (rest : List ℕ) → TakesFirst (places test hay) r rest → IsFirstByte test hay r
  first_taken r rest h = subst (λ n. IsFirst (Passes test hay) 0 n r) (omega arith) (taken_from 0 (length hay - 0) r rest h)
