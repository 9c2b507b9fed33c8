-- What an array is filled with: the next items of an iterator, each with the address and the length of its bytes.
use Rattle.std.specs.Prelude.{◌≡◌, ◌⊎◌, ◌+◌, ◌-◌, ◌≤◌, ◌<◌, ◌^◌, ℕ, Bool, true, false, List, [], ◌∷◌, length, take, drop}
use Rattle.osbytes_c.specs.declared.walks.view.View.{View}
use Rattle.osbytes_c.specs.declared.walks.view.Filled.{Filled}
use Rattle.osbytes_c.specs.Steps.{part, IsFirstPiece, IsLastPiece}

-- the array, whose content was `old`, begins with the items, and after them it is unchanged; `count` is the number of items
pub record IsFilled {A : Type 0} (items old new : List A) (count : ℕ) : Type 0 where
  pub same_length : length new ≡ length old
  pub count_is : count ≡ length items
  pub prefix : take count new ≡ items
  pub after : drop count new ≡ drop count old

-- the view is of the part from index i up to j of a string that begins at this address
pub record IsView (address i j : ℕ) (view : View) : Type 0 where
  pub ordered : i ≤ j
  pub at : view.at ≡ address + i
  pub len : view.len ≡ j - i

-- the bytes of a view, of a string that begins at this address
abbrev pub viewed : ℕ → List ℕ → View → List ℕ
viewed address s view = part s (view.at - address) (view.at - address + view.len)

-- there is no such index, or the string's end is past the greatest address
abbrev pub IsOutside : ℕ → ℕ → List ℕ → Type 0
IsOutside address at s = (length s < at) ⊎ (2 ^ 64 ≤ address + length s)

module _ {Step Item : Type 0} (Is : ℕ → Step → Type 0) (Shows : ℕ → Step → Item → Type 0) (next : Step → ℕ) (is_last : Step → Bool) where
  -- steps from index `at` on give these items, in order: then they go on at index `rest`, or have ended with the last one
  abbrev pub GiveInOrder : ℕ → List Item → Bool → ℕ → Type 0
  GiveInOrder at [] ended rest = (ended ≡ false) × (rest ≡ at)
  GiveInOrder at (item ∷ items) ended rest =
      (step : Step) × (Is at step × (Shows at step item × elim (is_last step) as (λ b. Type 0) [
        | true ↦ (items ≡ []) × ((ended ≡ true) × (rest ≡ next step))
        | false ↦ GiveInOrder (next step) items ended rest
      ]))

-- from index `at` on, s is split into the pieces in these views, and then into those after index `rest`, unless the split has ended
abbrev pub PieceViews : List ℕ → List ℕ → ℕ → ℕ → List View → Bool → ℕ → Type 0
PieceViews p s address =
    GiveInOrder (IsFirstPiece p s) (λ at step view. IsView address at step.edge view) (λ step. step.rest) (λ step. step.last)

-- the same from the end: before index `at`, and then before index `rest`
abbrev pub LastPieceViews : List ℕ → List ℕ → ℕ → ℕ → List View → Bool → ℕ → Type 0
LastPieceViews p s address =
    GiveInOrder (IsLastPiece p s) (λ at step view. IsView address step.edge at view) (λ step. step.rest) (λ step. step.last)

-- the array is filled with these items, as many as it has room for, or all that there are
pub record Fills {Item : Type 0} (AreItems : List Item → Bool → ℕ → Type 0) (old new : List Item) (filled : Filled) : Type 0 where
  pub items : List Item
  pub are : AreItems items filled.ended filled.next
  pub written : IsFilled items old new filled.count
  pub most : filled.ended ≡ false → filled.count ≡ length old

-- this holds, or the iterator has ended and nothing is left
abbrev pub IsLeft : {A : Type 0} → Bool → List A → Type 0 → Type 0
IsLeft ended left After = elim ended as (λ b. Type 0) [ true ↦ left ≡ [] | false ↦ After ]
