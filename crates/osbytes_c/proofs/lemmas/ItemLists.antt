-- Items of a list, one after the other.
use Rattle.std.proofs.Common.{◌≡◌, ◌<◌, ◌+◌, ℕ, zero, suc, List, Bor, [], ◌∷◌, ◌++◌, length, map, take, get_or, sym, ap, ◌∙◌, subst, arith}
use Rattle.std.proofs.lemmas.List.{take_more, map-append}
use Rattle.std.specs.Prelude.{slice_get, IsSomeAnd}
use Rattle.std.specs.List.{AllByRecursion}
use Rattle.osbytes_c.specs.ItemLists.{Views, items_of, AreItems, HasOther}

-- one more item
pub one_more_item : (views : Views) (i : ℕ) (d : Bor (List ℕ)) (items : List (List ℕ)) → items ≡ items_of (take i views) → i < length views
    → items ++ (get_or views i d).now ∷ [] ≡ items_of (take (i + 1) views)
one_more_item views i d items are within =
    ap (λ l. l ++ (get_or views i d).now ∷ []) are
    ∙ (sym (map-append (λ (v : Bor (List ℕ)). v.now) (take i views) (get_or views i d ∷ [])) ∙ ap items_of (sym (take_more views i d within)))

-- one more that is so
pub each_more : (Is : List ℕ → Type 0) (items : List (List ℕ)) (item : List ℕ) → AllByRecursion Is items → Is item → AllByRecursion Is (items ++ item ∷ [])
each_more Is [] item all is = (is, tt)
each_more Is (first ∷ items) item all is = (all.0, each_more Is items item all.1 is)

-- where each item is so, that with an index is
not_other : (Is : List ℕ → Type 0) (views : Views) (i : ℕ) → AllByRecursion Is (items_of views) → IsSomeAnd (slice_get views i) (λ v. ¬ (Is v.now)) → ⊥
not_other Is [] i all other = other
not_other Is (view ∷ views) zero all other = other all.0
not_other Is (view ∷ views) (suc i) all other = not_other Is views i all.1 other

pub has_no_other : (Is : List ℕ → Type 0) (views : Views) (items : List (List ℕ)) → AreItems views items → AllByRecursion Is items → ¬ (HasOther Is views)
has_no_other Is views items are all h = not_other Is views h.which (subst (AllByRecursion Is) are all) h.other

-- where that with an index isn't so, one is another
found : (Is : List ℕ → Type 0) (views : Views) (i : ℕ) (d : Bor (List ℕ)) → i < length views → ¬ (Is (get_or views i d).now) → IsSomeAnd (slice_get views i) (λ v. ¬ (Is v.now))
found Is [] i d within other = omega (arith, within)
found Is (view ∷ views) zero d within other = other
found Is (view ∷ views) (suc i) d within other = found Is views i d (omega (arith, within)) other

pub other_at : (Is : List ℕ → Type 0) (views : Views) (i : ℕ) (d : Bor (List ℕ)) → i < length views → ¬ (Is (get_or views i d).now) → HasOther Is views
other_at Is views i d within other = record { which = i; other = found Is views i d within other }
