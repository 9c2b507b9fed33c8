-- One pass over letters: after so many items the pieces match what is left.
use Rattle.std.proofs.Common.{◌≡◌, ◌⊎◌, ◌↔◌, inl, inr, ◌<◌, ◌≤◌, ℕ, zero, suc, Bool, IsTrue, List, [], ◌∷◌, refl, sym, subst, arith}
use Rattle.std.proofs.lemmas.Nat.Bits.{bit_at-zero, bit_at-suc}
use Rattle.wildcards.specs.declared.piece.Piece.{Piece}
use Rattle.wildcards.specs.declared.piece.Piece.TheVariants.{Many, One}
use Rattle.wildcards.specs.Wild.{Wild}
use Rattle.wildcards.specs.Flags.{Set, IsStepped}
use Rattle.wildcards.specs.Places.{items, after, Stays, FitsFirst, AreFlags, IsFew}
use Rattle.wildcards.proofs.lemmas.Wilds.{empty_run, one_place, no_place, longer_run, run_cases, run_at_end}

module _ {X A : Type 0} (T : A → Type 0) (F : X → A → Type 0) (any : (a : A) → T a) where
  same : (x : X) (a b : A) → F x a → T a → F x b → T b
  same x a b f t g = any b

  after_next : (ps : List (Piece X)) (i : ℕ) → after (suc i) ps ≡ after (suc zero) (after i ps)
  after_next ps zero = refl
  after_next [] (suc i) = refl
  after_next (Many ∷ ps) (suc i) = after_next ps (suc i)
  after_next (One x ∷ ps) (suc i) = after_next ps i

  -- the next letter is that of the first item, or is taken by a wildcard before it
  next : (qs : List (Piece X)) (a : A) (rest : List A) → Wild T F qs (a ∷ rest) → (FitsFirst F a qs × Wild T F (after (suc zero) qs) rest) ⊎ (Stays qs × Wild T F qs rest)
  next [] a rest m = let never : a ∷ rest ≡ [] = m in absurd cc
  next (Many ∷ qs) a rest m = by (next qs a rest) (run_cases T F same qs a rest m)
    where
      wrap : (FitsFirst F a qs × Wild T F (after (suc zero) qs) rest) ⊎ (Stays qs × Wild T F qs rest) → (FitsFirst F a qs × Wild T F (after (suc zero) qs) rest) ⊎ (Unit {0} × Wild T F (Many ∷ qs) rest)
      wrap (inl k) = inl k
      wrap (inr k) = inr (tt, empty_run T F same qs rest k.1)

      by : (Wild T F qs (a ∷ rest) → (FitsFirst F a qs × Wild T F (after (suc zero) qs) rest) ⊎ (Stays qs × Wild T F qs rest)) → Wild T F qs (a ∷ rest) ⊎ (T a × Wild T F (Many ∷ qs) rest)
          → (FitsFirst F a qs × Wild T F (after (suc zero) qs) rest) ⊎ (Unit {0} × Wild T F (Many ∷ qs) rest)
      by ahead (inl w) = wrap (ahead w)
      by ahead (inr w) = inr (tt, w.1)
  next (One x ∷ qs) a rest m = inl (one_place T F same x qs a rest m)

  fits_next : (qs : List (Piece X)) (a : A) (rest : List A) → FitsFirst F a qs → Wild T F (after (suc zero) qs) rest → Wild T F qs (a ∷ rest)
  fits_next [] a rest f w = absurd f
  fits_next (Many ∷ qs) a rest f w = empty_run T F same qs (a ∷ rest) (fits_next qs a rest f w)
  fits_next (One x ∷ qs) a rest f w = record { letter = a; rest = rest; joined = refl; fits = f; after = w }

  stays_next : (qs : List (Piece X)) (a : A) (rest : List A) → Stays qs → Wild T F qs rest → Wild T F qs (a ∷ rest)
  stays_next [] a rest s w = absurd s
  stays_next (Many ∷ qs) a rest s w = longer_run T F same qs (a ∷ []) rest (any a, tt) w
  stays_next (One x ∷ qs) a rest s w = absurd s

  -- an item comes after fewer than all, and the end after all
  before_end : (ps : List (Piece X)) (i : ℕ) (a : A) → FitsFirst F a (after i ps) → i < items ps
  before_end [] zero a f = absurd f
  before_end [] (suc i) a f = absurd f
  before_end (Many ∷ ps) zero a f = before_end ps zero a f
  before_end (Many ∷ ps) (suc i) a f = before_end ps (suc i) a f
  before_end (One x ∷ ps) zero a f = omega arith
  before_end (One x ∷ ps) (suc i) a f = let l = before_end ps i a f in omega arith

  at_end : (ps : List (Piece X)) (i : ℕ) → Wild T F (after i ps) [] → items ps ≤ i
  at_end [] i m = omega arith
  at_end (Many ∷ ps) zero m = at_end ps zero (run_at_end T F same ps m)
  at_end (Many ∷ ps) (suc i) m = at_end ps (suc i) m
  at_end (One x ∷ ps) zero m = absurd (no_place T F same x ps m)
  at_end (One x ∷ ps) (suc i) m = let l = at_end ps i m in omega arith

  end : (ps : List (Piece X)) (i : ℕ) → i ≡ items ps → Wild T F (after i ps) []
  end [] zero e = refl
  end [] (suc i) e = refl
  end (Many ∷ ps) zero e = empty_run T F same ps [] (end ps zero e)
  end (Many ∷ ps) (suc i) e = end ps (suc i) e
  end (One x ∷ ps) zero e = absurd (omega arith)
  end (One x ∷ ps) (suc i) e = end ps i (omega arith)

  -- after so many items, whose flag is set, the pieces match what is left
  pub record Leads (ps : List (Piece X)) (left : List A) (word : ℕ) : Type 0 where
    place : ℕ
    within : place ≤ items ps
    flag : Set word place
    matched : Wild T F (after place ps) left

  pub record ReadSoFar (ps : List (Piece X)) (letters left : List A) (word : ℕ) : Type 0 where
    pub alike : Wild T F ps letters ↔ Leads ps left word

  pub read_first : (ps : List (Piece X)) (letters : List A) → ReadSoFar ps letters letters 1
  read_first ps letters = record { alike = (λ m. record { place = zero; within = omega arith; flag = record { one = refl }; matched = m }, λ h. only h.place h.flag h.matched) }
    where
      only : (i : ℕ) → Set 1 i → Wild T F (after i ps) letters → Wild T F ps letters
      only zero k m = m
      only (suc i) k m = let e = k.one in absurd (omega (arith, bit_at-suc 1 i, bit_at-zero i))

  module _ (ps : List (Piece X)) (count : ℕ) (few : IsFew ps count) (letters left : List A) (word : ℕ) (so_far : ReadSoFar ps letters left word) where
    fewer : items ps < 128
    fewer = let e = few.are in let l = few.few in omega arith

    module _ (a : A) (rest : List A) (fitting staying result : ℕ) (e : left ≡ a ∷ rest) (f : AreFlags (FitsFirst F a) ps fitting) (s : AreFlags Stays ps staying) (t : IsStepped word fitting staying result) where
      kept : (i : ℕ) → i ≤ items ps → Set word i → Set staying i → Set result i
      kept zero l k h = t.lowest.1 (k, h)
      kept (suc i) l k h = (t.higher i (let m = fewer in omega arith)).1 (inr (k, h))

      ahead : Leads ps left word → Leads ps rest result
      ahead h = by (next (after h.place ps) a rest (subst (Wild T F (after h.place ps)) e h.matched))
        where
          by : (FitsFirst F a (after h.place ps) × Wild T F (after (suc zero) (after h.place ps)) rest) ⊎ (Stays (after h.place ps) × Wild T F (after h.place ps) rest) → Leads ps rest result
          by (inl k) = let m = fewer in let l = before_end ps h.place a k.0 in record {
            place = suc h.place;
            within = omega arith;
            flag = (t.higher h.place (omega arith)).1 (inl (h.flag, (f.each h.place (omega arith)).1 k.0));
            matched = subst (λ z. Wild T F z rest) (sym (after_next ps h.place)) k.1;
          }
          by (inr k) = record {
            place = h.place;
            within = h.within;
            flag = kept h.place h.within h.flag ((s.each h.place (let m = fewer in let l = h.within in omega arith)).1 k.0);
            matched = k.1;
          }

      behind : (i : ℕ) → i ≤ items ps → Set result i → Wild T F (after i ps) rest → Leads ps (a ∷ rest) word
      behind zero l k m = let p = t.lowest.0 k in record { place = zero; within = l; flag = p.0; matched = stays_next ps a rest ((s.each zero (omega arith)).0 p.1) m }
      behind (suc i) l k m = let n = fewer in by ((t.higher i (omega arith)).0 k)
        where
          by : (Set word i × Set fitting i) ⊎ (Set word (suc i) × Set staying (suc i)) → Leads ps (a ∷ rest) word
          by (inl p) = let n = fewer in record { place = i; within = omega arith; flag = p.0; matched = fits_next (after i ps) a rest ((f.each i (omega arith)).0 p.1) (subst (λ z. Wild T F z rest) (after_next ps i) m) }
          by (inr p) = let n = fewer in record { place = suc i; within = l; flag = p.0; matched = stays_next (after (suc i) ps) a rest ((s.each (suc i) (omega arith)).0 p.1) m }

      pub read_more : ReadSoFar ps letters rest result
      read_more = record { alike = (λ m. ahead (so_far.alike.0 m), λ h. so_far.alike.1 (subst (λ z. Leads ps z word) (sym e) (behind h.place h.within h.flag h.matched))) }

    pub read_all : (result : Bool) → left ≡ [] → IsTrue result ↔ Set word count → IsTrue result ↔ Wild T F ps letters
    read_all result e s = (
      λ k. so_far.alike.1 (record { place = count; within = let c = few.are in omega arith; flag = s.0 k; matched = subst (Wild T F (after count ps)) (sym e) (end ps count few.are) }),
      λ m. last (so_far.alike.0 m),
    )
      where
        last : Leads ps left word → IsTrue result
        last h = let c = few.are in let l = h.within in let m = at_end ps h.place (subst (Wild T F (after h.place ps)) e h.matched) in let p : h.place ≡ count = omega arith in s.1 (subst (Set word) p h.flag)
