-- Ranges in order have the letters that they have in any.
use Rattle.std.proofs.Common.{◌≡◌, ◌⊎◌, inl, inr, ◌<◌, ◌≤◌, ◌+◌, ◌-◌, ◌*◌, ◌/◌, ℕ, zero, suc, Bool, true, false, ◌&&◌, ◌||◌, nat_le, nat_lt, List, [], ◌∷◌, ◌++◌, length, get_or, set, take, drop, refl, sym, ap, ap₂, ◌∙◌, subst, arith, append_assoc, append-nil, take_all, take-append-drop, length-drop}
use Rattle.std.specs.Prelude.{if◌then◌else◌}
use Rattle.std.proofs.lemmas.Grind.{take-set_at}
use Rattle.std.proofs.lemmas.List.{drop_more, drop-set-lt, drop_all, get_or_default, get_or-drop, get_or-take, length-take-le}
use Rattle.std.specs.Int.{from_bool}
use Rattle.std.specs.List.{list_any}
use Rattle.std.specs.List.Sorted.{IsPermutation, IsNonDecreasingBy}
use Rattle.std.proofs.lemmas.Bool.{cases_lt, leb-true, le-leb, ltb-true, lt-ltb}
use Rattle.std.proofs.lemmas.List.Sorted.{IsNonDecreasingBy-drop, IsNonDecreasingBy-from_all_adjacent, list_any-IsPermutation}
use Rattle.wildcards.specs.declared.range.Range.{Range}
use Rattle.wildcards.specs.Ranges.{lies_in, is_in, further, reaches, AreOrdered}

-- each is no less than the one before it, and the first than the floor
abbrev Rises : (Range → ℕ) → ℕ → List Range → Type 0
Rises n floor [] = Unit {0}
Rises n floor (r ∷ rs) = (floor ≤ n r) × Rises n (n r) rs

module _ (n : Range → ℕ) where
  rises : (floor : ℕ) (rs : List Range) → ((d : Range) → 0 < length rs → floor ≤ n (get_or rs 0 d)) → IsNonDecreasingBy n rs → Rises n floor rs
  rises floor [] low up = tt
  rises floor (r ∷ rs) low up = (low r (omega arith), rises (n r) rs next (IsNonDecreasingBy-drop n 1 (r ∷ rs) up))
    where
      next : (d : Range) → 0 < length rs → n r ≤ n (get_or rs 0 d)
      next d l = up 0 1 d (omega arith) (omega (arith, l))

  adjacent : (floor : ℕ) (rs : List Range) → Rises n floor rs → (k : ℕ) (d : Range) → suc k < length rs → n (get_or rs k d) ≤ n (get_or rs (suc k) d)
  adjacent floor [] up k d l = absurd (omega (arith, l))
  adjacent floor (r ∷ []) up k d l = absurd (omega (arith, l))
  adjacent floor (r ∷ s ∷ rs) up zero d l = up.1.0
  adjacent floor (r ∷ s ∷ rs) up (suc k) d l = adjacent (n r) (s ∷ rs) up.1 k d (omega (arith, l))

  non_decreasing : (floor : ℕ) (rs : List Range) → Rises n floor rs → IsNonDecreasingBy n rs
  non_decreasing floor rs up = IsNonDecreasingBy-from_all_adjacent n rs (λ k d l.
      let next : suc k ≡ k + 1 = omega arith in
      subst (λ z. n (get_or rs k d) ≤ n (get_or rs z d)) next (adjacent floor rs up k d (omega (arith, l))))

-- where the ranges stand makes no difference
module _ (letter : ℕ) where
  as_any : (rs : List Range) → is_in rs letter ≡ list_any (λ r. lies_in r letter) rs
  as_any [] = refl
  as_any (r ∷ rs) = ap (λ z. lies_in r letter || z) (as_any rs)

  pub moved : (xs ys : List Range) → IsPermutation xs ys → is_in ys letter ≡ is_in xs letter
  moved xs ys p = as_any ys ∙ sym (list_any-IsPermutation (λ r. lies_in r letter) xs ys p) ∙ sym (as_any xs)

  or_assoc : (a b c : Bool) → (a || (b || c)) ≡ ((a || b) || c)
  or_assoc true b c = refl
  or_assoc false b c = refl

  or_true : (a b : Bool) → b ≡ true → (a || b) ≡ true
  or_true true b e = refl
  or_true false b e = e

  over : (a b : ℕ) → nat_le a b ≡ false → b < a
  over a b e = by_size (cases_lt b a)
    where
      by_size : (b < a) ⊎ (a ≤ b) → b < a
      by_size (inl l) = l
      by_size (inr l) = let never : false ≡ true = sym e ∙ le-leb a b l in cc

  not_le : (a b : ℕ) → b < a → nat_le a b ≡ false
  not_le a b l = tested (nat_le a b) refl
    where
      tested : (v : Bool) → nat_le a b ≡ v → nat_le a b ≡ false
      tested false e = e
      tested true e = absurd (omega (arith, l, leb-true a b e))

  -- a letter beyond the reach is in a range whose last letter is no nearer
  same_last : (reach last : ℕ) → reach < letter → nat_le letter (further reach last) ≡ nat_le letter last
  same_last reach last l = tested (nat_lt reach last) refl
    where
      tested : (v : Bool) → nat_lt reach last ≡ v → nat_le letter (further reach last) ≡ nat_le letter last
      tested true e = ap (λ z. nat_le letter (if z then last else reach)) e
      tested false e = ap (λ z. nat_le letter (if z then last else reach)) e ∙ not_le letter reach l ∙ sym (not_le letter last (omega (arith, l, no_further)))
        where
          no_further : last ≤ reach
          no_further = by_size (cases_lt reach last)
            where
              by_size : (reach < last) ⊎ (last ≤ reach) → last ≤ reach
              by_size (inl k) = let never : true ≡ false = sym (lt-ltb reach last k) ∙ e in cc
              by_size (inr k) = k

  lies : (r : Range) → r.first ≤ letter → letter ≤ r.last → lies_in r letter ≡ true
  lies r f l = ap (λ z. z && nat_le letter r.last) (le-leb r.first letter f) ∙ le-leb letter r.last l

  -- a letter that is no further than the reach has been found
  reached : (so_far : Bool) (floor reach : ℕ) (rs : List Range) → Rises (λ r. r.first) floor rs → (floor ≤ letter → letter ≤ reach → so_far ≡ true) → (so_far || is_in (reaches reach rs) letter) ≡ (so_far || is_in rs letter)
  reached so_far floor reach [] up h = refl
  reached so_far floor reach (r ∷ rs) up h =
      or_assoc so_far (lies_in new letter) (is_in (reaches next rs) letter)
      ∙ ap (λ z. z || is_in (reaches next rs) letter) (same so_far refl)
      ∙ reached (so_far || lies_in r letter) r.first next rs up.1 found
      ∙ sym (or_assoc so_far (lies_in r letter) (is_in rs letter))
    where
      next : ℕ
      next = further reach r.last

      new : Range
      new = record { first = r.first; last = next }

      same : (v : Bool) → so_far ≡ v → (so_far || lies_in new letter) ≡ (so_far || lies_in r letter)
      same true e = ap (λ z. z || lies_in new letter) e ∙ sym (ap (λ z. z || lies_in r letter) e)
      same false e = ap (λ z. so_far || z) (by_first (nat_le r.first letter) refl)
        where
          by_first : (v : Bool) → nat_le r.first letter ≡ v → lies_in new letter ≡ lies_in r letter
          by_first false f = ap (λ z. z && nat_le letter next) f ∙ sym (ap (λ z. z && nat_le letter r.last) f)
          by_first true f = ap (λ z. nat_le r.first letter && z) (same_last reach r.last (by_size (cases_lt reach letter)))
            where
              by_size : (reach < letter) ⊎ (letter ≤ reach) → reach < letter
              by_size (inl l) = l
              by_size (inr l) = let never : false ≡ true = sym e ∙ h (omega (arith, up.0, leb-true r.first letter f)) l in cc

      found : r.first ≤ letter → letter ≤ next → (so_far || lies_in r letter) ≡ true
      found f l = by_reach (cases_lt reach letter)
        where
          by_reach : (reach < letter) ⊎ (letter ≤ reach) → (so_far || lies_in r letter) ≡ true
          by_reach (inr k) = ap (λ z. z || lies_in r letter) (h (omega (arith, up.0, f)) k)
          by_reach (inl k) = or_true so_far (lies_in r letter) (lies r f (leb-true letter r.last (sym (same_last reach r.last k) ∙ le-leb letter next l)))

  first_reach : (last : ℕ) → further 0 last ≡ last
  first_reach zero = refl
  first_reach (suc last) = ap (λ z. if z then suc last else 0) (lt-ltb 0 (suc last) (omega arith))

  pub same_letters : (rs : List Range) → IsNonDecreasingBy (λ r. r.first) rs → is_in (reaches 0 rs) letter ≡ is_in rs letter
  same_letters [] up = refl
  same_letters (r ∷ rs) up =
      ap (λ z. lies_in (record { first = r.first; last = z }) letter || is_in (reaches z rs) letter) (first_reach r.last)
      ∙ reached (lies_in r letter) r.first r.last rs (rises (λ r. r.first) 0 (r ∷ rs) (λ d l. omega arith) up).1 (lies r)

  ends_before : (r : Range) → r.last < letter → lies_in r letter ≡ false
  ends_before r l = ap (λ z. nat_le r.first letter && z) (not_le letter r.last l) ∙ and_false (nat_le r.first letter)
    where
      and_false : (a : Bool) → (a && false) ≡ false
      and_false true = refl
      and_false false = refl

  none_ends : (rs : List Range) → ((k : ℕ) (d : Range) → k < length rs → (get_or rs k d).last < letter) → is_in rs letter ≡ false
  none_ends [] h = refl
  none_ends (r ∷ rs) h = ap (λ z. z || is_in rs letter) (ends_before r (h 0 r (omega arith))) ∙ none_ends rs (λ k d l. h (suc k) d (omega (arith, l)))

  none_begins : (rs : List Range) → ((k : ℕ) (d : Range) → k < length rs → letter < (get_or rs k d).first) → is_in rs letter ≡ false
  none_begins [] h = refl
  none_begins (r ∷ rs) h = ap (λ z. (z && nat_le letter r.last) || is_in rs letter) (not_le r.first letter (h 0 r (omega arith))) ∙ none_begins rs (λ k d l. h (suc k) d (omega (arith, l)))

  in_either : (xs ys : List Range) → is_in (xs ++ ys) letter ≡ (is_in xs letter || is_in ys letter)
  in_either [] ys = refl
  in_either (x ∷ xs) ys = ap (λ z. lies_in x letter || z) (in_either xs ys) ∙ or_assoc (lies_in x letter) (is_in xs letter) (is_in ys letter)

  cut_at : (i : ℕ) (rs : List Range) → is_in rs letter ≡ (is_in (take i rs) letter || is_in (drop i rs) letter)
  cut_at i rs = ap (λ z. is_in z letter) (sym (take-append-drop i rs)) ∙ in_either (take i rs) (drop i rs)

  -- none of the ranges from this size on begins by the letter
  front_alike : (size : ℕ) (rs : List Range) → ((k : ℕ) (d : Range) → size ≤ k → k < length rs → letter < (get_or rs k d).first) → is_in (take size rs) letter ≡ is_in rs letter
  front_alike size rs later = sym (cut_at size rs ∙ ap (λ z. is_in (take size rs) letter || z) none ∙ or_false (is_in (take size rs) letter))
    where
      none : is_in (drop size rs) letter ≡ false
      none = none_begins (drop size rs) (λ k d l. subst (λ r. letter < r.first) (sym (get_or-drop size rs k d)) (later (size + k) d (omega arith) (omega (arith, l, length-drop size rs))))

      or_false : (v : Bool) → (v || false) ≡ v
      or_false true = refl
      or_false false = refl

  -- the range at this index begins by the letter
  back_alike : (i : ℕ) (rs : List Range) (d : Range) → AreOrdered rs → i < length rs → (get_or rs i d).first ≤ letter → is_in (drop i rs) letter ≡ is_in rs letter
  back_alike i rs d order l begun = sym (cut_at i rs ∙ by_end (cases_lt (get_or rs i d).last letter))
    where
      here : drop i rs ≡ get_or rs i d ∷ drop (i + 1) rs
      here = drop_more rs i d l

      by_end : ((get_or rs i d).last < letter) ⊎ (letter ≤ (get_or rs i d).last) → (is_in (take i rs) letter || is_in (drop i rs) letter) ≡ is_in (drop i rs) letter
      by_end (inl before) = ap (λ z. z || is_in (drop i rs) letter) (none_ends (take i rs) (λ k e m.
          let below : k < i = omega (arith, m, length-take-le i rs (omega (arith, l))) in
          let up = order.1 k i e (omega (arith, below)) l in
          let same : (get_or rs i e).last ≡ (get_or rs i d).last = ap (λ r. r.last) (get_or_default rs i e d l) in
          subst (λ r. r.last < letter) (sym (get_or-take i rs k e below)) (omega (arith, up, same, before))))
      by_end (inr after) =
          let yes : is_in (drop i rs) letter ≡ true = ap (λ z. is_in z letter) here ∙ ap (λ z. (z && nat_le letter (get_or rs i d).last) || is_in (drop (i + 1) rs) letter) (le-leb _ _ begun) ∙ ap (λ z. z || is_in (drop (i + 1) rs) letter) (le-leb _ _ after) in
          or_true (is_in (take i rs) letter) (is_in (drop i rs) letter) yes ∙ sym yes

  module _ (rs : List Range) (d : Range) (third size : ℕ) (order : AreOrdered rs) (t : third ≡ length rs / 3) (some : 2 < length rs) (s : size ≡ length rs - 2 * third) where
    -- the ranges between, of which the first begins by the letter and none after the last
    between : (at : ℕ) → is_in (drop at rs) letter ≡ is_in rs letter → ((k : ℕ) (e : Range) → at + size ≤ k → k < length rs → letter < (get_or rs k e).first) → is_in (take size (drop at rs)) letter ≡ is_in rs letter
    between at back later = front_alike size (drop at rs) (λ k e l m. subst (λ r. letter < r.first) (sym (get_or-drop at rs k e)) (later (at + k) e (omega (arith, l)) (omega (arith, m, length-drop at rs)))) ∙ back

    later_begins : (i : ℕ) → i < length rs → letter < (get_or rs i d).first → (k : ℕ) (e : Range) → i ≤ k → k < length rs → letter < (get_or rs k e).first
    later_begins i l before k e m n =
        let up = order.0 i k d m n in
        let same : (get_or rs k d).first ≡ (get_or rs k e).first = ap (λ r. r.first) (get_or_default rs k d e n) in
        omega (arith, up, same, before)

    by_pivots : (v w : Bool) → nat_le (get_or rs third d).first letter ≡ v → nat_le (get_or rs (2 * third) d).first letter ≡ w → is_in (take size (drop (third * (from_bool v + from_bool w)) rs)) letter ≡ is_in rs letter
    by_pivots true true e f =
        let at : third * 2 ≡ 2 * third = omega arith in
        subst (λ z. is_in (take size (drop z rs)) letter ≡ is_in rs letter) (sym at)
        (between (2 * third) (back_alike (2 * third) rs d order (omega (arith, t, some)) (leb-true _ _ f)) (λ k g l m. absurd (omega (arith, l, m, s, t))))
    by_pivots true false e f =
        let at : third * 1 ≡ third = omega arith in
        subst (λ z. is_in (take size (drop z rs)) letter ≡ is_in rs letter) (sym at)
        (between third (back_alike third rs d order (omega (arith, t, some)) (leb-true _ _ e)) (λ k g l m. later_begins (2 * third) (omega (arith, t, some)) (over _ _ f) k g (omega (arith, l, s, t)) m))
    by_pivots false false e f =
        let at : third * 0 ≡ 0 = omega arith in
        subst (λ z. is_in (take size (drop z rs)) letter ≡ is_in rs letter) (sym at)
        (between 0 refl (λ k g l m. later_begins third (omega (arith, t, some)) (over _ _ e) k g (omega (arith, l, s, t)) m))
    by_pivots false true e f =
        let up = order.0 third (2 * third) d (omega arith) (omega (arith, t, some)) in
        absurd (omega (arith, up, over _ _ e, leb-true _ _ f))

    pub narrowed_alike : (first second : ℕ) → first ≡ from_bool (nat_le (get_or rs third d).first letter) → second ≡ from_bool (nat_le (get_or rs (2 * third) d).first letter) → is_in (take size (drop (third * (first + second)) rs)) letter ≡ is_in rs letter
    narrowed_alike first second e f =
        ap₂ (λ a b. is_in (take size (drop (third * (a + b)) rs)) letter) e f ∙ by_pivots (nat_le (get_or rs third d).first letter) (nat_le (get_or rs (2 * third) d).first letter) refl refl

-- the last letters that are reached ascend
reaches_last : (reach : ℕ) (rs : List Range) → Rises (λ r. r.last) reach (reaches reach rs)
reaches_last reach [] = tt
reaches_last reach (r ∷ rs) = (no_nearer, reaches_last (further reach r.last) rs)
  where
    no_nearer : reach ≤ further reach r.last
    no_nearer = tested (nat_lt reach r.last) refl
      where
        tested : (v : Bool) → nat_lt reach r.last ≡ v → reach ≤ further reach r.last
        tested true e = subst (λ z. reach ≤ (if z then r.last else reach)) (sym e) (let l = ltb-true reach r.last e in omega (arith, l))
        tested false e = subst (λ z. reach ≤ (if z then r.last else reach)) (sym e) (omega arith)

same_first : (floor reach : ℕ) (rs : List Range) → Rises (λ r. r.first) floor rs → Rises (λ r. r.first) floor (reaches reach rs)
same_first floor reach [] up = tt
same_first floor reach (r ∷ rs) up = (up.0, same_first r.first (further reach r.last) rs up.1)

pub ordered : (rs : List Range) → IsNonDecreasingBy (λ r. r.first) rs → AreOrdered (reaches 0 rs)
ordered rs up = (
  non_decreasing (λ r. r.first) 0 (reaches 0 rs) (same_first 0 0 rs (rises (λ r. r.first) 0 rs (λ d l. omega arith) up)),
  non_decreasing (λ r. r.last) 0 (reaches 0 rs) (reaches_last 0 rs),
)

-- one more range is given what has been reached
next_reached : (all xs ys : List Range) (at reach : ℕ) (r v : Range) → at < length xs → r ≡ get_or xs at r → v ≡ record { first = r.first; last = further reach r.last } → ys ≡ set xs at v → all ≡ take at xs ++ reaches reach (drop at xs) → all ≡ take (at + 1) ys ++ reaches (further reach r.last) (drop (at + 1) ys)
next_reached all xs ys at reach r v l e f g h =
    let next = further reach r.last in
    let back : drop at xs ≡ r ∷ drop (at + 1) xs = drop_more xs at r l ∙ ap (λ z. z ∷ drop (at + 1) xs) (sym e) in
    let front : take (at + 1) ys ≡ take at xs ++ v ∷ [] = ap (take (at + 1)) g ∙ take-set_at xs at (at + 1) v refl l in
    let rest : drop (at + 1) ys ≡ drop (at + 1) xs = ap (drop (at + 1)) g ∙ drop-set-lt (at + 1) xs at v (omega arith) in
    h ∙ ap (λ z. take at xs ++ reaches reach z) back
    ∙ ap (λ z. take at xs ++ z ∷ reaches next (drop (at + 1) xs)) (sym f)
    ∙ sym (append_assoc (take at xs) (v ∷ []) (reaches next (drop (at + 1) xs)))
    ∙ ap₂ (λ a b. a ++ reaches next b) (sym front) (sym rest)

pub one_reached : (all xs : List Range) (at reach next : ℕ) (r : Range) → at < length xs → r ≡ get_or xs at r → next ≡ further reach r.last → all ≡ take at xs ++ reaches reach (drop at xs) → all ≡ take (at + 1) (set xs at (record { first = r.first; last = next })) ++ reaches next (drop (at + 1) (set xs at (record { first = r.first; last = next })))
one_reached all xs at reach next r l e f h =
    subst (λ z. all ≡ take (at + 1) (set xs at (record { first = r.first; last = z })) ++ reaches z (drop (at + 1) (set xs at (record { first = r.first; last = z })))) (sym f)
    (next_reached all xs (set xs at (record { first = r.first; last = further reach r.last })) at reach r (record { first = r.first; last = further reach r.last }) l e refl refl h)

pub all_reached : (all xs : List Range) (at reach : ℕ) → length xs ≤ at → all ≡ take at xs ++ reaches reach (drop at xs) → xs ≡ all
all_reached all xs at reach l h =
    sym (h ∙ ap₂ (λ a b. a ++ reaches reach b) (take_all at xs l) (drop_all at xs l) ∙ append-nil xs)
