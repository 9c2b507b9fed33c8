-- Each bucket of a path's keys is handed out.
use Rattle.std.proofs.Common.{◌≡◌, ◌⊎◌, inl, inr, ◌≤◌, ◌+◌, ℕ, zero, suc, List, [], ◌∷◌, ◌++◌, take, refl, sym, ap, ◌∙◌, subst, arith, append_assoc, append-nil, length-append}
use Rattle.std.proofs.lemmas.List.{take-append-le}
use Rattle.wildcards.specs.declared.candidates.Query.{Query}
use Rattle.wildcards.specs.declared.candidates.Stage.{Stage}
use Rattle.wildcards.specs.declared.candidates.Stage.TheVariants as stage
use Rattle.wildcards.specs.declared.filter.Place.{Place}
use Rattle.wildcards.specs.Candidates.{OneHas, AreBefore, HasEarlier, IsHandedOut, key_lists, left_keys, lists_of, path_keys, slot_in}
use Rattle.wildcards.specs.Sets.{Has}
use Rattle.wildcards.specs.Tables.{places_at, bucket}

module _ {X : Type 0} where
  -- the first of those that are left, and the others
  pub first_taken : (n m : ℕ) (all more : List X) (x : X) → all ≡ x ∷ more → n ≡ suc m → Has (take n all) x × ((y : X) → Has (take m more) y → Has (take n all) y)
  first_taken n m all more x e f = (moved x (inl refl), λ y h. moved y (inr h))
    where
      moved : (y : X) → Has (take (suc m) (x ∷ more)) y → Has (take n all) y
      moved y h = subst (λ z. Has (take z all) y) (sym f) (subst (λ z. Has (take (suc m) z) y) (sym e) h)

  taken : (n : ℕ) (xs : List X) (x : X) → Has (take n xs) x → Has xs x
  taken zero xs x h = absurd h
  taken (suc n) [] x h = absurd h
  taken (suc n) (y ∷ xs) x (inl e) = inl e
  taken (suc n) (y ∷ xs) x (inr h) = inr (taken n xs x h)

module _ {A : Type 0} (q : Query A) where
  -- the lists have what is in the bucket of a key
  pub key_listed : (place : Place) (keys : List (List ℕ)) (key : List ℕ) → Has keys key → Has (bucket q.filter.now.folds q.filter.now.buckets.items key) place → OneHas (key_lists q keys) place
  key_listed place [] key h l = absurd h
  key_listed place (k ∷ keys) key (inl e) l = inl (subst (λ z. Has (bucket q.filter.now.folds q.filter.now.buckets.items z) place) e l)
  key_listed place (k ∷ keys) key (inr h) l = inr (key_listed place keys key h l)

  either_list : (place : Place) (keys : List (List ℕ)) (key : List ℕ) → OneHas (key_lists q (keys ++ key ∷ [])) place → OneHas (key_lists q keys) place ⊎ Has (bucket q.filter.now.folds q.filter.now.buckets.items key) place
  either_list place [] key (inl h) = inr h
  either_list place [] key (inr h) = absurd h
  either_list place (k ∷ keys) key (inl h) = inl (inl h)
  either_list place (k ∷ keys) key (inr h) = later (either_list place keys key h)
    where
      later : OneHas (key_lists q keys) place ⊎ Has (bucket q.filter.now.folds q.filter.now.buckets.items key) place → OneHas (key_lists q (k ∷ keys)) place ⊎ Has (bucket q.filter.now.folds q.filter.now.buckets.items key) place
      later (inl m) = inl (inr m)
      later (inr m) = inr m

  pub first_list : (place : Place) → OneHas (lists_of q []) place → OneHas [] place ⊎ Has q.filter.now.others.items place
  first_list place (inl h) = inr h
  first_list place (inr h) = inl h

  pub none_before : (count : ℕ) → count ≡ 0 → AreBefore q stage.Path count []
  none_before count e = record { joined = refl; counted = omega (arith, e) }

  module _ (stage : Stage) (count : ℕ) (keys : List (List ℕ)) (h : AreBefore q stage count keys) where
    pub next_before : (more : Stage) (next : ℕ) (key : List ℕ) → left_keys q stage ≡ key ∷ left_keys q more → next ≤ count + 1 → AreBefore q more next (keys ++ key ∷ [])
    next_before more next key e l = record {
      joined = h.joined ∙ ap (λ z. keys ++ z) e ∙ sym (append_assoc keys (key ∷ []) (left_keys q more));
      counted = let c = h.counted in omega (arith, l, c, length-append keys (key ∷ []));
    }

    pub all_before : left_keys q stage ≡ [] → path_keys q ≡ keys
    all_before e = h.joined ∙ ap (λ z. keys ++ z) e ∙ append-nil keys

    -- what is in the bucket of the next key is handed out, or was
    pub handed_out : (key : List ℕ) (places : List Place) → IsHandedOut q count key places → (place : Place) → OneHas (lists_of q (keys ++ key ∷ [])) place → OneHas (lists_of q keys) place ⊎ Has places place
    handed_out key places (inl e) place (inl m) = inl (inl m)
    handed_out key places (inr e) place (inl m) = inl (inl m)
    handed_out key places given place (inr m) = onto given (either_list place keys key m)
      where
        earlier : HasEarlier q count (slot_in q key) → Has (places_at q.filter.now.buckets.items (slot_in q key)) place → OneHas (key_lists q keys) place
        earlier e l =
            let front = ap (take count) h.joined ∙ take-append-le count keys (left_keys q stage) h.counted in
            key_listed place keys e.0 (taken count keys e.0 (subst (λ z. Has z e.0) front e.1.0)) (subst (λ z. Has (places_at q.filter.now.buckets.items z) place) (sym e.1.1) l)

        onto : IsHandedOut q count key places → OneHas (key_lists q keys) place ⊎ Has (places_at q.filter.now.buckets.items (slot_in q key)) place → OneHas (lists_of q keys) place ⊎ Has places place
        onto given (inl l) = inl (inr l)
        onto (inl e) (inr l) = inr (subst (λ z. Has z place) (sym e) l)
        onto (inr e) (inr l) = inl (inr (earlier e.1 l))
