-- Places in the buckets of a filter stay where they are.
use Rattle.std.proofs.Common.{Bool, ◌≡◌, ◌⊎◌, inl, inr, ◌<◌, ◌≤◌, ◌+◌, ◌-◌, ℕ, zero, suc, List, [], ◌∷◌, ◌++◌, length, get_or, set, refl, sym, ap, ◌∙◌, subst, arith}
use Rattle.std.specs.declared.vec.Vec.{Vec}
use Rattle.std.specs.Prelude.{slice_index_or}
use Rattle.std.proofs.lemmas.Bool.{cases_lt}
use Rattle.std.proofs.lemmas.List.Elements.{at_read}
use Rattle.wildcards.specs.declared.options.Options.{Options}
use Rattle.wildcards.specs.declared.filter.Filter.{Filter}
use Rattle.wildcards.specs.declared.filter.Place.{Place}
use Rattle.wildcards.specs.declared.key.Kind.{Kind}
use Rattle.wildcards.specs.declared.key.Kind.TheVariants as kind
use Rattle.wildcards.specs.declared.part.Part.{Part}
use Rattle.wildcards.specs.declared.pattern.Choice.{Choice}
use Rattle.wildcards.specs.declared.piece.Piece.{Piece}
use Rattle.wildcards.specs.declared.set.Pattern.{Pattern}
use Rattle.wildcards.specs.Filters.{Asks, IsCovered, Grows, AreCovered, CoversBelow, CoversAll}
use Rattle.wildcards.specs.Small.{IsNeededBy}
use Rattle.wildcards.specs.Sets.{Has}
use Rattle.wildcards.specs.Tables.{slot_of, places_at, bucket}
use Rattle.wildcards.proofs.lemmas.Found.{has_more, has_pushed}

module _ {A : Type 0} where
  pub at_slot : (bs : List (Vec Place A)) (slot : ℕ) (d : Vec Place A) → slot < length bs → places_at bs slot ≡ (get_or bs slot d).items
  at_slot [] slot d l = absurd (omega (arith, l))
  at_slot (b ∷ bs) zero d l = refl
  at_slot (b ∷ bs) (suc slot) d l = at_slot bs slot d (omega (arith, l))

  pub past_slots : (bs : List (Vec Place A)) (slot : ℕ) → length bs ≤ slot → places_at bs slot ≡ []
  past_slots [] slot l = refl
  past_slots (b ∷ bs) zero l = absurd (omega (arith, l))
  past_slots (b ∷ bs) (suc slot) l = past_slots bs slot (omega (arith, l))

  -- a bucket that has more
  set_slot : (bs : List (Vec Place A)) (slot at : ℕ) (v : Vec Place A) (i : Place) → ((k : Place) → Has (places_at bs slot) k → Has v.items k) → Has (places_at bs at) i → Has (places_at (set bs slot v) at) i
  set_slot [] slot at v i more h = absurd h
  set_slot (b ∷ bs) zero zero v i more h = more i h
  set_slot (b ∷ bs) zero (suc at) v i more h = h
  set_slot (b ∷ bs) (suc slot) zero v i more h = h
  set_slot (b ∷ bs) (suc slot) (suc at) v i more h = set_slot bs slot at v i more h

  this_slot : (bs : List (Vec Place A)) (slot : ℕ) (v : Vec Place A) (i : Place) → slot < length bs → Has v.items i → Has (places_at (set bs slot v) slot) i
  this_slot [] slot v i l h = absurd (omega (arith, l))
  this_slot (b ∷ bs) zero v i l h = h
  this_slot (b ∷ bs) (suc slot) v i l h = this_slot bs slot v i (omega (arith, l)) h

  set_length : (bs : List (Vec Place A)) (slot : ℕ) (v : Vec Place A) → length (set bs slot v) ≡ length bs
  set_length [] slot v = refl
  set_length (b ∷ bs) zero v = refl
  set_length (b ∷ bs) (suc slot) v = ap suc (set_length bs slot v)

  -- an index is pushed onto a bucket
  module _ (folds : Bool) (bs new : List (Vec Place A)) (slot : ℕ) (index : Place) (v d : Vec Place A) (l : slot < length bs) (e : new ≡ set bs slot v) (p : v.items ≡ (get_or bs slot d).items ++ index ∷ []) where
    same_count : length new ≡ length bs
    same_count = ap length e ∙ set_length bs slot v

    pub pushed_all : (key : List ℕ) (i : Place) → Has (bucket folds bs key) i → Has (bucket folds new key) i
    pushed_all key i h =
        subst (λ n. Has (places_at new (slot_of folds n key)) i) (sym same_count)
        (subst (λ z. Has (places_at z (slot_of folds (length bs) key)) i) (sym e)
        (set_slot bs slot (slot_of folds (length bs) key) v i (λ k has. subst (λ z. Has z k) (sym p) (has_more (get_or bs slot d).items index k (subst (λ z. Has z k) (at_slot bs slot d l) has))) h))

    pub pushed_one : (key : List ℕ) → slot ≡ slot_of folds (length bs) key → Has (bucket folds new key) index
    pushed_one key f =
        subst (λ n. Has (places_at new (slot_of folds n key)) index) (sym same_count)
        (subst (λ z. Has (places_at z (slot_of folds (length bs) key)) index) (sym e)
        (subst (λ n. Has (places_at (set bs slot v) n) index) f
        (this_slot bs slot v index l (subst (λ z. Has z index) (sym p) (has_pushed (get_or bs slot d).items index)))))

  pub grows_not : (f : Filter A) → Grows f f
  grows_not f = record { others = λ i h. h; same = refl; listed = λ key i h. h; asked = λ k n h. h }

  pub grows_on : (f g h : Filter A) → Grows f g → Grows g h → Grows f h
  grows_on f g h a b = record {
    others = λ i k. b.others i (a.others i k);
    same = a.same ∙ b.same;
    listed = λ key i k. b.listed key i (a.listed key i k);
    asked = λ kind n k. b.asked kind n (a.asked kind n k);
  }

  pub more_others : (f : Filter A) (v : Vec Place A) (n : Place) → v.items ≡ f.others.items ++ n ∷ [] → Grows f (record { folds = f.folds; buckets = f.buckets; others = v; paths = f.paths; extensions = f.extensions; components = f.components; names = f.names; ends = f.ends })
  more_others f v n e = record { others = λ i h. subst (λ z. Has z i) (sym e) (has_more f.others.items n i h); same = refl; listed = λ key i h. h; asked = asked }
    where
      asked : (k : Kind) (m : ℕ) → Asks f k m → Asks (record { folds = f.folds; buckets = f.buckets; others = v; paths = f.paths; extensions = f.extensions; components = f.components; names = f.names; ends = f.ends }) k m
      asked kind.Path m h = h
      asked kind.Component m h = h
      asked kind.Name m h = h
      asked kind.Extension m h = h
      asked kind.End m h = h

  pub more_listed : (f : Filter A) (v : Vec (Vec Place A) A) → ((key : List ℕ) (i : Place) → Has (bucket f.folds f.buckets.items key) i → Has (bucket f.folds v.items key) i) → Grows f (record { folds = f.folds; buckets = v; others = f.others; paths = f.paths; extensions = f.extensions; components = f.components; names = f.names; ends = f.ends })
  more_listed f v more = record { others = λ i h. h; same = refl; listed = more; asked = asked }
    where
      asked : (k : Kind) (m : ℕ) → Asks f k m → Asks (record { folds = f.folds; buckets = v; others = f.others; paths = f.paths; extensions = f.extensions; components = f.components; names = f.names; ends = f.ends }) k m
      asked kind.Path m h = h
      asked kind.Component m h = h
      asked kind.Name m h = h
      asked kind.Extension m h = h
      asked kind.End m h = h

  -- a key is noted, and then its index listed
  pub listed_covered : (o : Options) (f g : Filter A) (i : Place) (pieces : List (Piece (Part A))) (k : Kind) (n : ℕ) (key : List ℕ) → IsNeededBy f.folds o pieces k n key → Asks f k n → Grows f g → Has g.others.items i ⊎ Has (bucket g.folds g.buckets.items key) i → IsCovered o g i pieces
  listed_covered o f g i pieces k n key needed asked grows (inl h) = inl h
  listed_covered o f g i pieces k n key needed asked grows (inr h) = inr (record { kind = k; size = n; key = key; needed = subst (λ z. IsNeededBy z o pieces k n key) grows.same needed; asked = grows.asked k n asked; listed = h })

  module _ (o : Options) (f g : Filter A) (grows : Grows f g) where
    covered_on : (i : Place) (pieces : List (Piece (Part A))) → IsCovered o f i pieces → IsCovered o g i pieces
    covered_on i pieces (inl h) = inl (grows.others i h)
    covered_on i pieces (inr h) = inr (record { kind = h.kind; size = h.size; key = h.key; needed = subst (λ z. IsNeededBy z o pieces h.kind h.size h.key) grows.same h.needed; asked = grows.asked h.kind h.size h.asked; listed = grows.listed h.key i h.listed })

    pub are_covered_on : (i j : ℕ) (cs : List (Choice A)) → AreCovered o f i j cs → AreCovered o g i j cs
    are_covered_on i j [] h = tt
    are_covered_on i j (c ∷ cs) h = (covered_on (record { pattern = i; choice = j }) c.pieces.items h.0, are_covered_on i (j + 1) cs h.1)

  module _ (o : Options) (f : Filter A) (i : ℕ) (choices : List (Choice A)) where
    -- where what is left is covered, all choices are
    abbrev pub CoversSoFar : Filter A → List (Choice A) → Type 0
    CoversSoFar now left = Grows f now × ((length left ≤ length choices) × ((later : Filter A) → Grows now later → AreCovered o later i (length choices - length left) left → AreCovered o later i 0 choices))

    pub covers_none : (left : List (Choice A)) → left ≡ choices → CoversSoFar f left
    covers_none left e =
        let size : length choices - length left ≡ 0 = omega (arith, ap length e) in
        (grows_not f, (omega (arith, ap length e), λ later grows h. subst (AreCovered o later i 0) e (subst (λ z. AreCovered o later i z left) size h)))

    pub covers_one : (now next : Filter A) (left rest : List (Choice A)) (c : Choice A) → left ≡ c ∷ rest → CoversSoFar now left → Grows now next → IsCovered o next (record { pattern = i; choice = length choices - length left }) c.pieces.items → CoversSoFar next rest
    covers_one now next left rest c e so_far grows covered =
        let fits = so_far.1.0 in
        let at : length choices - length rest ≡ (length choices - length left) + 1 = omega (arith, fits, ap length e) in (
          grows_on f now next so_far.0 grows,
          (
            omega (arith, fits, ap length e),
            λ later more h. so_far.1.1 later (grows_on now next later grows more)
                (subst (AreCovered o later i (length choices - length left)) (sym e) (covered_on o next later more (record { pattern = i; choice = length choices - length left }) c.pieces.items covered, subst (λ z. AreCovered o later i z rest) at h)),
          ),
        )

    pub covers_each : (now : Filter A) (left : List (Choice A)) → left ≡ [] → CoversSoFar now left → AreCovered o now i 0 choices
    covers_each now left e so_far = so_far.1.1 now (grows_not now) (subst (AreCovered o now i (length choices - length left)) (sym e) tt)

  module _ (o : Options) (patterns : List (Pattern A)) where
    pub covers_nothing : (f : Filter A) → CoversBelow o f patterns 0
    covers_nothing f i l = absurd (omega (arith, l))

    pub covers_next : (f g : Filter A) (n : ℕ) (p : Pattern A) → n < length patterns → p ≡ slice_index_or patterns n p → Grows f g → AreCovered o g n 0 p.choices.items → CoversBelow o f patterns n → CoversBelow o g patterns (n + 1)
    covers_next f g n p l is grows covered below i k d = by_size (cases_lt i n)
      where
        by_size : (i < n) ⊎ (n ≤ i) → AreCovered o g i 0 (slice_index_or patterns i d).choices.items
        by_size (inl m) = are_covered_on o f g grows i 0 (slice_index_or patterns i d).choices.items (below i m d)
        by_size (inr m) =
            let e : i ≡ n = omega (arith, k, m) in
            subst (λ z. AreCovered o g z 0 (slice_index_or patterns z d).choices.items) (sym e) (at_read patterns (λ q. AreCovered o g n 0 q.choices.items) n p l is covered d)

    pub covers_all : (f : Filter A) (n : ℕ) → length patterns ≤ n → CoversBelow o f patterns n → CoversAll o f patterns
    covers_all f n l below i k d never = never (below i (omega (arith, l, k)) d)
