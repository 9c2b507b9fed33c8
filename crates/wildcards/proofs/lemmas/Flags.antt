-- The flags of pieces, from the last piece on.
use Rattle.std.proofs.Common.{◌≡◌, ◌⊎◌, ◌↔◌, inl, inr, ◌<◌, ◌+◌, ℕ, zero, suc, Bool, true, IsTrue, List, [], ◌∷◌, ◌++◌, refl, sym, ap, ◌∙◌, subst, arith, append_assoc, append-nil, get_or, set, length, replicate}
use Rattle.std.proofs.lemmas.Bool.{cases_eq}
use Rattle.std.proofs.lemmas.List.{get_or-replicate, get_or-set_same, get_or-set_other}
use Rattle.std.proofs.lemmas.Nat.Bits.{bit_at-zero}
use Rattle.wildcards.specs.declared.piece.Piece.{Piece}
use Rattle.wildcards.specs.declared.piece.Piece.TheVariants.{Many, One}
use Rattle.wildcards.specs.Flags.{Set, IsShifted, SetsLowest}
use Rattle.wildcards.specs.Places.{items, after, Stays, FitsFirst, AreFlags, IsFew}

none_set : (i : ℕ) → Set zero i → ⊥
none_set i h = let e = h.one in omega (arith, bit_at-zero i)

module _ {X : Type 0} (Is : List (Piece X) → Type 0) where
  -- the flags of the last pieces
  pub record FlagsSoFar (ps left : List (Piece X)) (word : ℕ) : Type 0 where
    pub done : List (Piece X)
    pub joined : ps ≡ left ++ done
    pub are : AreFlags Is done word

  pub flags_first : (Is [] → ⊥) → (ps : List (Piece X)) → FlagsSoFar ps ps zero
  flags_first n ps = record { done = []; joined = sym (append-nil ps); are = record { each = each } }
    where
      each : (i : ℕ) → i < 128 → Set zero i ↔ Is (after i [])
      each zero l = (λ h. absurd (none_set zero h), λ h. absurd (n h))
      each (suc i) l = (λ h. absurd (none_set (suc i) h), λ h. absurd (n h))

  module _ (ps left before : List (Piece X)) (word result : ℕ) (so_far : FlagsSoFar ps left word) where
    one_less : (p : Piece X) → left ≡ before ++ p ∷ [] → ps ≡ before ++ p ∷ so_far.done
    one_less p e = so_far.joined ∙ ap (λ z. z ++ so_far.done) e ∙ append_assoc before (p ∷ []) so_far.done

    -- at a wildcard only the lowest flag may change, at an item the others move
    past_many : left ≡ before ++ Many ∷ [] → (Set result zero ↔ Is (Many ∷ so_far.done)) → ((i : ℕ) → Set result (suc i) ↔ Set word (suc i)) → FlagsSoFar ps before result
    past_many e lowest higher = record { done = Many ∷ so_far.done; joined = one_less Many e; are = record { each = each } }
      where
        each : (i : ℕ) → i < 128 → Set result i ↔ Is (after i (Many ∷ so_far.done))
        each zero l = lowest
        each (suc i) l = (λ k. (so_far.are.each (suc i) l).0 ((higher i).0 k), λ k. (higher i).1 ((so_far.are.each (suc i) l).1 k))

    past_one : (x : X) → left ≡ before ++ One x ∷ [] → (Set result zero ↔ Is (One x ∷ so_far.done)) → ((i : ℕ) → suc i < 128 → Set result (suc i) ↔ Set word i) → FlagsSoFar ps before result
    past_one x e lowest higher = record { done = One x ∷ so_far.done; joined = one_less (One x) e; are = record { each = each } }
      where
        each : (i : ℕ) → i < 128 → Set result i ↔ Is (after i (One x ∷ so_far.done))
        each zero l = lowest
        each (suc i) l = let m : suc i < 128 = l in let n : i < 128 = omega arith in (λ k. (so_far.are.each i n).0 ((higher i m).0 k), λ k. (higher i m).1 ((so_far.are.each i n).1 k))

  pub all_flags : (ps left : List (Piece X)) (word : ℕ) → FlagsSoFar ps left word → left ≡ [] → AreFlags Is ps word
  all_flags ps left word h e = let f : ps ≡ h.done = h.joined ∙ ap (λ z. z ++ h.done) e in subst (λ z. AreFlags Is z word) (sym f) h.are

module _ {X A : Type 0} (F : X → A → Type 0) (a : A) where
  pub fitting_first : (ps : List (Piece X)) → FlagsSoFar (FitsFirst F a) ps ps zero
  fitting_first ps = flags_first (FitsFirst F a) (λ h. h) ps

  module _ (ps left before : List (Piece X)) (word : ℕ) (so_far : FlagsSoFar (FitsFirst F a) ps left word) where
    pub fitting_past_many : left ≡ before ++ Many ∷ [] → FlagsSoFar (FitsFirst F a) ps before word
    fitting_past_many e = past_many (FitsFirst F a) ps left before word word so_far e (so_far.are.each zero (omega arith)) (λ i. (λ k. k, λ k. k))

    pub fitting_past_one : (x : X) (moved result : ℕ) (flag : Bool) → left ≡ before ++ One x ∷ [] → IsTrue flag ↔ F x a → IsShifted word moved → SetsLowest moved flag result → FlagsSoFar (FitsFirst F a) ps before result
    fitting_past_one x moved result flag e y s t =
        past_one (FitsFirst F a) ps left before word result so_far x e (λ k. lowest (t.lowest.0 k), λ k. t.lowest.1 (inr (y.1 k))) (λ i l. (λ k. (s.higher i l).0 ((t.higher i).0 k), λ k. (t.higher i).1 ((s.higher i l).1 k)))
      where
        lowest : Set moved zero ⊎ IsTrue flag → F x a
        lowest (inl k) = absurd (s.lowest k)
        lowest (inr k) = y.0 k

  -- a wildcard before the pieces changes no flag
  pub fitting_after_many : (ps : List (Piece X)) (word : ℕ) → AreFlags (FitsFirst F a) ps word → AreFlags (FitsFirst F a) (Many ∷ ps) word
  fitting_after_many ps word h = record { each = each }
    where
      each : (i : ℕ) → i < 128 → Set word i ↔ FitsFirst F a (after i (Many ∷ ps))
      each zero l = h.each zero l
      each (suc i) l = h.each (suc i) l

-- what holds of each pair of two lists holds after a set of both
module _ (P : ℕ → ℕ → Type 0) where
  pub pairs_first : (x y : ℕ) → P x y → (n i : ℕ) → i < n → P (get_or (replicate n x) i 0) (get_or (replicate n y) i 0)
  pairs_first x y p n i l = subst (λ z. P z (get_or (replicate n y) i 0)) (sym (get_or-replicate n i x 0 l)) (subst (P x) (sym (get_or-replicate n i y 0 l)) p)

  pub pairs_set : (xs ys : List ℕ) (at x y i : ℕ) → at < length xs → at < length ys → P x y → P (get_or xs i 0) (get_or ys i 0) → P (get_or (set xs at x) i 0) (get_or (set ys at y) i 0)
  pairs_set xs ys at x y i l m p h = by (cases_eq i at)
    where
      by : (i ≡ at) ⊎ (i ≡ at → ⊥) → P (get_or (set xs at x) i 0) (get_or (set ys at y) i 0)
      by (inl e) = subst (λ j. P (get_or (set xs at x) j 0) (get_or (set ys at y) j 0)) (sym e) (subst (λ z. P z (get_or (set ys at y) at 0)) (sym (get_or-set_same xs at x 0 l)) (subst (P x) (sym (get_or-set_same ys at y 0 m)) p))
      by (inr n) = subst (λ z. P z (get_or (set ys at y) i 0)) (sym (get_or-set_other xs at i x 0 n)) (subst (P (get_or xs i 0)) (sym (get_or-set_other ys at i y 0 n)) h)

module _ {X : Type 0} where
  items_push : (ps : List (Piece X)) (x : X) → items (ps ++ One x ∷ []) ≡ suc (items ps)
  items_push [] x = refl
  items_push (Many ∷ ps) x = items_push ps x
  items_push (One y ∷ ps) x = ap suc (items_push ps x)

  items_many : (ps : List (Piece X)) → items (ps ++ Many ∷ []) ≡ items ps
  items_many [] = refl
  items_many (Many ∷ ps) = items_many ps
  items_many (One y ∷ ps) = ap suc (items_many ps)

  -- the flags of the last pieces, and how many items they have
  pub record StayingSoFar (ps left : List (Piece X)) (word count : ℕ) : Type 0 where
    pub flags : FlagsSoFar Stays ps left word
    pub are : items ps ≡ count + items left
    pub few : count < 128

  pub staying_first : (ps : List (Piece X)) → StayingSoFar ps ps zero zero
  staying_first ps = record { flags = flags_first Stays (λ h. h) ps; are = omega arith; few = omega arith }

  module _ (ps left before : List (Piece X)) (word result count : ℕ) (so_far : StayingSoFar ps left word count) where
    pub staying_past_many : left ≡ before ++ Many ∷ [] → SetsLowest word true result → StayingSoFar ps before result count
    staying_past_many e t = record {
      flags = past_many Stays ps left before word result so_far.flags e (λ k. tt, λ k. t.lowest.1 (inr refl)) t.higher;
      are = so_far.are ∙ ap (λ z. count + items z) e ∙ ap (λ z. count + z) (items_many before);
      few = so_far.few;
    }

    pub staying_past_one : (x : X) → (count ≡ 127 → ⊥) → left ≡ before ++ One x ∷ [] → IsShifted word result → StayingSoFar ps before result (count + 1)
    staying_past_one x n e s = let are : items ps ≡ count + suc (items before) = so_far.are ∙ ap (λ z. count + items z) e ∙ ap (λ z. count + z) (items_push before x) in let few = so_far.few in record {
      flags = past_one Stays ps left before word result so_far.flags x e (λ k. s.lowest k, λ k. absurd k) s.higher;
      are = omega arith;
      few = omega arith;
    }

  pub all_staying : (ps left : List (Piece X)) (word result count : ℕ) → StayingSoFar ps left word count → left ≡ [] → SetsLowest word true result → AreFlags Stays (Many ∷ ps) result × IsFew (Many ∷ ps) count
  all_staying ps left word result count h e t = (record { each = each }, record { are = sym (h.are ∙ ap (λ z. count + items z) e ∙ omega arith); few = h.few })
    where
      whole : AreFlags Stays ps word
      whole = all_flags Stays ps left word h.flags e

      each : (i : ℕ) → i < 128 → Set result i ↔ Stays (after i (Many ∷ ps))
      each zero l = (λ k. tt, λ k. t.lowest.1 (inr refl))
      each (suc i) l = (λ k. (whole.each (suc i) l).0 ((t.higher i).0 k), λ k. (t.higher i).1 ((whole.each (suc i) l).1 k))
