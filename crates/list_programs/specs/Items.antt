-- Items of an input, each ended by a byte: names ended by NUL, lines ended by a newline.
use Rattle.std.specs.Prelude.{◌≡◌, ◌≢◌, ℕ, List, [], ◌∷◌, ◌++◌}
use Rattle.std.specs.List.{flat_map, AllByRecursion}

-- no byte ends an item
abbrev pub Lacks : ℕ → List ℕ → Type 0
Lacks end bytes = AllByRecursion (λ b. b ≢ end) bytes

-- the bytes are cut at the first that ends an item
pub record IsCutAt (end : ℕ) (bytes prefix after : List ℕ) : Type 0 where
  pub whole : Lacks end prefix
  pub joined : bytes ≡ prefix ++ end ∷ after

-- an item, and what is written for it
abbrev pub Entry : Type 0
Entry = List ℕ × List ℕ

-- the item with the byte that ends it
abbrev pub ended : ℕ → Entry → List ℕ
ended end e = e.0 ++ end ∷ []

-- the items of entries, each with the byte that ends it
abbrev pub items_of : ℕ → List Entry → List ℕ
items_of end entries = flat_map (ended end) entries

-- what is written for an entry, and for entries, one after the other
abbrev pub text_of : Entry → List ℕ
text_of e = e.1

abbrev pub texts_of : List Entry → List ℕ
texts_of entries = flat_map text_of entries

-- the last item of the input isn't empty, and no byte ends it
pub record IsLastUnended (end : ℕ) (entries : List Entry) (input : List ℕ) : Type 0 where
  pub before : List Entry
  pub last : Entry
  pub entries_are : entries ≡ before ++ last ∷ []
  pub some : last.0 ≢ []
  pub joined : input ≡ items_of end before ++ last.0
