-- Lists of items that C passes as an array of views.
use Rattle.std.specs.Prelude.{◌≡◌, ℕ, List, map, slice_get, IsSomeAnd}
use Rattle.std.specs.Borrow.{Bor}

-- an array of views, each of the bytes of an item
abbrev pub Views : Type 0
Views = List (Bor (List ℕ))

-- the items that the views are of
abbrev pub items_of : Views → List (List ℕ)
items_of views = map (λ v. v.now) views

-- these are the items of the array
abbrev pub AreItems : Views → List (List ℕ) → Type 0
AreItems views items = items ≡ items_of views

-- an item of the array, the one with this index, isn't so
pub record HasOther (Is : List ℕ → Type 0) (views : Views) : Type 0 where
  pub which : ℕ
  pub other : IsSomeAnd (slice_get views which) (λ v. ¬ (Is v.now))
