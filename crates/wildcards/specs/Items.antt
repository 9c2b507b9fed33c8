-- What is read item by item.
use Rattle.std.specs.Prelude.{◌≡◌, List, [], ◌∷◌, ◌++◌}

module _ {S O : Type 0} (Item : S → O → S → Type 0) where
  -- the items are read one after the other: each at the start of what the one before it leaves, and the last leaves the end
  abbrev pub Reads : S → List O → S → Type 0
  Reads start [] end = start ≡ end
  Reads start (item ∷ items) end = (left : S) × Item start item left × Reads left items end

-- the lists one after the other
abbrev pub concat_of : {X : Type 0} → List (List X) → List X
concat_of [] = []
concat_of (x ∷ xs) = x ++ concat_of xs

module _ {S X : Type 0} (Item : S → List X → S → Type 0) where
  -- lists are read one after the other, and joined these are the items
  pub record ReadsLists (start : S) (items : List X) (left : S) : Type 0 where
    pub lists : List (List X)
    pub read : Reads Item start lists left
    pub joined : items ≡ concat_of lists
