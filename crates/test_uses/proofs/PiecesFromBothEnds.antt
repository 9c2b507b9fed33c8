-- Where a pattern doesn't overlap itself, the pieces from the end are those from the start in reverse.
use Rattle.std.proofs.Common.{◌≡◌, ℕ, ◌+◌, ◌-◌, ◌<◌, ◌≤◌, List, [], ◌∷◌, ◌++◌, length, take, drop, reverse, refl, sym, ap, ◌∙◌, subst, arith, append_assoc, length-append}
use Rattle.std.proofs.lemmas.List.{append-nil, append_cancel_left, length-drop, drop-append-le, reverse-append, reverse-reverse, length-reverse}
use Rattle.std.proofs.lemmas.List.Elements.{All-head, All-tail, All-push, All-same}
use Rattle.std.proofs.Math.Seq.{take-append_seam, drop-append_seam}
use Rattle.std.specs.List.{All, join_by}
use Rattle.os_str_ext.specs.Pieces.{SplitsAt, IsSplit, IsRSplit, whole, cut}
use Rattle.wtf8_core.specs.Occurrence.{OccursAt, OccursNowhere, IsLastIndex}
use Rattle.test_uses.proofs.NoMatch.{in_no_piece}
use Rattle.test_uses.proofs.PiecesJoined.{pieces_joined, with_last}

-- what holds of each element holds of each in reverse
all_reversed : (P : List ℕ → Type 0) (xs : List (List ℕ)) → All P xs → All P (reverse xs)
all_reversed P [] a = a
all_reversed P (x ∷ xs) a = All-same P _ _ (reverse-append (x ∷ []) xs) (All-push P (reverse xs) x (all_reversed P xs (All-tail P x xs a)) (All-head P x xs a))

module _ (p : List ℕ) (some : 0 < length p) where
  -- the pieces with p between them
  abbrev joined : List (List ℕ) → List ℕ
  joined pieces = join_by (λ piece. piece) p pieces

  -- there is one last index, and so one way to fall into pieces from the end
  one_last_index : (s : List ℕ) (i j : ℕ) → IsLastIndex p s i → IsLastIndex p s j → i ≡ j
  one_last_index s i j a b =
      let before : ¬ (i < j) = λ l. a.greatest j l b.occurs in
      let after : ¬ (j < i) = λ l. b.greatest i l a.occurs in
      omega (arith, before, after)

  one_rsplit : (s : List ℕ) (xs ys : List (List ℕ)) → IsRSplit p s xs → IsRSplit p s ys → xs ≡ ys
  one_rsplit s _ _ (whole w) (whole v) = refl
  one_rsplit s _ _ (whole w) (cut d g) = absurd (w _ d.found.occurs)
  one_rsplit s _ _ (cut c f) (whole v) = absurd (v _ c.found.occurs)
  one_rsplit s _ _ (cut {piece = x} {rest = a} {pieces = xs} c f) (cut {piece = y} {rest = b} {pieces = ys} d g) =
      let same : a ++ (p ++ x) ≡ b ++ (p ++ y) = sym c.joined ∙ d.joined in
      let size : length a ≡ length b = one_last_index s (length a) (length b) c.found d.found in
      let rest : a ≡ b = sym (take-append_seam a (p ++ x)) ∙ ap (take (length a)) same ∙ ap (λ n. take n (b ++ (p ++ y))) size ∙ take-append_seam b (p ++ y) in
      let piece : x ≡ y = append_cancel_left p x y (append_cancel_left b (p ++ x) (p ++ y) (ap (λ z. z ++ (p ++ x)) (sym rest) ∙ same)) in
      ap (λ z. z ∷ xs) piece ∙ ap (λ zs. y ∷ zs) (one_rsplit b xs ys (subst (λ z. IsRSplit p z xs) rest f) g)

  -- what occurs after the first of two parts occurs in the second
  pub in_second : (x y : List ℕ) (k : ℕ) → OccursAt p (x ++ y) k → length x ≤ k → OccursAt p y (k - length x)
  in_second x y k st far =
      let index = st.index in record {
        before = drop (length x) st.before;
        after = st.after;
        joined = sym (drop-append_seam x y) ∙ ap (drop (length x)) st.joined ∙ drop-append-le (length x) st.before (p ++ st.after) (omega (arith, index, far));
        index = length-drop (length x) st.before ∙ ap (λ n. n - length x) index;
      }

  module _ (apart : (s : List ℕ) (i j : ℕ) → OccursAt p s i → OccursAt p s j → i < j → i + length p ≤ j) where
    -- a match that a piece without one follows is the last
    last_cut : (prefix piece : List ℕ) → OccursNowhere p piece → SplitsAt IsLastIndex p (prefix ++ (p ++ piece)) prefix piece
    last_cut prefix piece none =
        let here : OccursAt p (prefix ++ (p ++ piece)) (length prefix) = record { before = prefix; after = piece; joined = refl; index = refl } in record {
          joined = refl;
          found = record {
            occurs = here;
            greatest = λ k l st.
                let far : length prefix + length p ≤ k = apart (prefix ++ (p ++ piece)) (length prefix) k here st l in
                none (k - length (prefix ++ p)) (in_second (prefix ++ p) piece k (subst (λ s. OccursAt p s k) (sym (append_assoc prefix p piece)) st) (omega (arith, far, length-append prefix p)));
          };
        }

    from_the_end : (q : List ℕ) (qs : List (List ℕ)) → All (OccursNowhere p) (q ∷ qs) → IsRSplit p (joined (reverse (q ∷ qs))) (q ∷ qs)
    from_the_end q [] a = subst (λ s. IsRSplit p s (q ∷ [])) (sym (append-nil q)) (whole (All-head (OccursNowhere p) q [] a))
    from_the_end q (r ∷ rs) a =
        let e : joined (reverse (q ∷ r ∷ rs)) ≡ joined (reverse (r ∷ rs)) ++ (p ++ q) = ap joined (reverse-append (q ∷ []) (r ∷ rs)) ∙ with_last p (reverse (r ∷ rs)) q (omega (arith, length-reverse (r ∷ rs))) in
        subst (λ s. IsRSplit p s (q ∷ r ∷ rs)) (sym e) (cut (last_cut (joined (reverse (r ∷ rs))) q (All-head (OccursNowhere p) q (r ∷ rs) a)) (from_the_end r rs (All-tail (OccursNowhere p) q (r ∷ rs) a)))

    of_pieces : (qs : List (List ℕ)) → 0 < length qs → All (OccursNowhere p) qs → IsRSplit p (joined (reverse qs)) qs
    of_pieces [] n a = absurd (omega (arith, n))
    of_pieces (q ∷ qs) n a = from_the_end q qs a

    some_piece : (s : List ℕ) (xs : List (List ℕ)) → IsSplit p s xs → 0 < length (reverse xs)
    some_piece s _ (whole w) = omega arith
    some_piece s _ (cut {piece = x} {pieces = xs} c f) = omega (arith, length-reverse (x ∷ xs))

    pub reversed : (s : List ℕ) (xs ys : List (List ℕ)) → IsSplit p s xs → IsRSplit p s ys → ys ≡ reverse xs
    reversed s xs ys split rsplit =
        let whole_again : joined (reverse (reverse xs)) ≡ s = ap joined (reverse-reverse xs) ∙ pieces_joined p (λ _ _ _ c. c.joined) s xs split in
        let back : IsRSplit p s (reverse xs) = subst (λ z. IsRSplit p z (reverse xs)) whole_again (of_pieces (reverse xs) (some_piece s xs split) (all_reversed (OccursNowhere p) xs (in_no_piece p some s xs split))) in
        one_rsplit s ys (reverse xs) rsplit back
