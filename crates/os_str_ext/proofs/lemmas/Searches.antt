-- What the searches of `memchr` find, and that a string may be cut before and after a text.
use Rattle.os_str_ext.proofs.Common.{◌≡◌, ℕ, ◌+◌, ◌-◌, ◌<◌, ◌≤◌, true, List, [], ◌++◌, length, take, drop, Option, Some, None, refl, sym, ap, subst, ◌∙◌, arith, inl, inr, ⊎_elim, length-append, take-append-drop, append-nil, length-take-le, nil_from_length, cases_eq, false≢true, is_some, IsUtf8, OccursAt, IsFirstIndex, IsLastIndex, IsPrefix, IsSuffix, IsBoundary}
use Rattle.std.specs.Option.{IfSome}
use Rattle.wtf8_core.specs.Occurrence.{Finds}
pub use Rattle.os_str_ext.specs.Occurrences.{needle_from_occurs, first_index_of_needle, last_index_of_needle, parts_around}
use Rattle.os_str_ext.specs.Pieces.{OccursSomewhere, MayBeCutAround}

-- a string may be cut before and after a text that occurs in it (`laws::boundaries`)
abbrev pub EdgesOfTexts : Type 0
EdgesOfTexts = (p : List ℕ) → (s : List ℕ) → (i : ℕ) → IsUtf8 p → 0 < length p → OccursAt p s i → IsBoundary s i × IsBoundary s (i + length p)

-- what occurs at an index ends within the list
pub occurs_within : (p s : List ℕ) (i : ℕ) → OccursAt p s i → i + length p ≤ length s
occurs_within p s i h = (needle_from_occurs s p i h).fits

-- so what is found ends below any bound of the length
pub below_first : (n : ℕ) (p s : List ℕ) (r : Option ℕ) → length s < n → Finds IsFirstIndex p s r → IfSome r (λ i. i + length p < n)
below_first n p s None low h = tt
below_first n p s (Some i) low h = let fits = occurs_within p s i h.occurs in omega arith

pub below_last : (n : ℕ) (p s : List ℕ) (r : Option ℕ) → length s < n → Finds IsLastIndex p s r → IfSome r (λ i. i + length p < n)
below_last n p s None low h = tt
below_last n p s (Some i) low h = let fits = occurs_within p s i h.occurs in omega arith

module _ (s p : List ℕ) where
  -- the empty list occurs at each index: first at the start, last at the end
  empty_occurs : (i : ℕ) → length p ≡ 0 → i ≤ length s → OccursAt p s i
  empty_occurs i none le =
      subst (λ q. OccursAt q s i) (sym (nil_from_length p none)) (record {
        before = take i s;
        after = drop i s;
        joined = sym (take-append-drop i s);
        index = length-take-le i s le;
      })

  empty_first : (i : ℕ) → length p ≡ 0 → IsFirstIndex p s i → i ≡ 0
  empty_first i none h = ⊎_elim (λ e. e) (λ ne. absurd (h.least 0 (omega arith) (empty_occurs 0 none (omega arith)))) (cases_eq i 0)

  empty_last : (i : ℕ) → length p ≡ 0 → IsLastIndex p s i → i ≡ length s
  empty_last i none h =
      let fits = occurs_within p s i h.occurs in
      ⊎_elim (λ e. e) (λ ne. absurd (h.greatest (length s) (omega arith) (empty_occurs (length s) none (omega arith)))) (cases_eq i (length s))

  -- a string may be cut before and after what a search finds
  pub cut_around_first : EdgesOfTexts → IsUtf8 p → (r : Option ℕ) → Finds IsFirstIndex p s r → MayBeCutAround s (length p) r
  cut_around_first edges u None h = tt
  cut_around_first edges u (Some i) h =
      ⊎_elim
      (λ none. let start = empty_first i none h in (record { is = inl start }, record { is = inl (omega arith) }))
      (λ some. edges p s i u (omega arith) h.occurs)
      (cases_eq (length p) 0)

  pub cut_around_last : EdgesOfTexts → IsUtf8 p → (r : Option ℕ) → Finds IsLastIndex p s r → MayBeCutAround s (length p) r
  cut_around_last edges u None h = tt
  cut_around_last edges u (Some i) h =
      ⊎_elim
      (λ none. let end = empty_last i none h in (record { is = inr (inl end) }, record { is = inr (inl (omega arith)) }))
      (λ some. edges p s i u (omega arith) h.occurs)
      (cases_eq (length p) 0)

-- a prefix occurs at the start, and a suffix at the last index at which there is room for it
prefix_occurs : (p s : List ℕ) → IsPrefix p s → OccursAt p s 0
prefix_occurs p s h = record { before = []; after = h.rest; joined = h.joined; index = refl }

suffix_occurs : (p s : List ℕ) → IsSuffix p s → OccursAt p s (length s - length p)
suffix_occurs p s h =
    let size : length s ≡ length h.rest + length p = ap length h.joined ∙ length-append h.rest p in
    record { before = h.rest; after = []; joined = h.joined ∙ ap (λ q. h.rest ++ q) (sym (append-nil p)); index = omega arith }

-- a string may be cut after a text at its start, and before one at its end
pub cut_after_prefix : EdgesOfTexts → (p s : List ℕ) → IsUtf8 p → IsPrefix p s → IsBoundary s (length p)
cut_after_prefix edges p s u h =
    ⊎_elim (λ none. record { is = inl none }) (λ some. subst (λ n. IsBoundary s n) (omega arith) (edges p s 0 u (omega arith) (prefix_occurs p s h)).1) (cases_eq (length p) 0)

pub cut_before_end : EdgesOfTexts → (p s : List ℕ) → IsUtf8 p → IsSuffix p s → IsBoundary s (length s - length p)
cut_before_end edges p s u h =
    ⊎_elim (λ none. record { is = inr (inl (omega arith)) }) (λ some. (edges p s (length s - length p) u (omega arith) (suffix_occurs p s h)).0) (cases_eq (length p) 0)

-- a pattern occurs in a string exactly if a search finds it
pub found_somewhere : (p s : List ℕ) (r : Option ℕ) → Finds IsFirstIndex p s r → (is_some r ≡ true → OccursSomewhere p s) × (OccursSomewhere p s → is_some r ≡ true)
found_somewhere p s None h = (λ e. absurd (false≢true e), λ w. absurd (h w.0 w.1))
found_somewhere p s (Some i) h = (λ e. (i, h.occurs), λ w. refl)
