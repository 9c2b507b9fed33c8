-- Which programs Windows starts cmd.exe for, by their names (std's `Command` on Windows). Lists are of 16-bit units.
use Rattle.std.specs.Prelude.{◌≡◌, ◌⊎◌, ℕ, ◌+◌, nat_eq, Bool, true, ◌||◌, List, ◌∷◌}
use Rattle.std.specs.List.{AllByRecursion}

-- this letter, in lower case or in upper case
abbrev pub IsLetter : ℕ → ℕ → Type 0
IsLetter lower u = (u ≡ lower) ⊎ (u + 0x20 ≡ lower)

-- `bat` or `cmd`, in either case
abbrev pub IsBatchExtension : ℕ → ℕ → ℕ → Type 0
IsBatchExtension x y z = (IsLetter 0x62 x × IsLetter 0x61 y × IsLetter 0x74 z) ⊎ (IsLetter 0x63 x × IsLetter 0x6D y × IsLetter 0x64 z)

-- the path is verbatim: it begins with `\\?\` or `\??\`
abbrev pub IsVerbatim : List ℕ → Type 0
IsVerbatim path = (second : ℕ) × (rest : List ℕ) × ((second ≡ 0x5C) ⊎ (second ≡ 0x3F)) × (path ≡ 0x5C ∷ second ∷ 0x3F ∷ 0x5C ∷ rest)

-- what Windows drops at the end of a path that isn't verbatim: full stops and spaces
abbrev pub IsDropped : List ℕ → ℕ → Type 0
IsDropped path u = (¬ (IsVerbatim path)) × ((u ≡ 0x2E) ⊎ (u ≡ 0x20))

-- The units end with `.` and one of these extensions, and after it there are only units that are dropped:
-- they end so from here on;
-- or after some more units.
pub data EndsAsBatch (dropped : ℕ → Type 0) : List ℕ → Type 0 where
  here : (x y z : ℕ) (after : List ℕ) → IsBatchExtension x y z → AllByRecursion dropped after → EndsAsBatch dropped (0x2E ∷ x ∷ y ∷ z ∷ after)
  later : (u : ℕ) (us : List ℕ) → EndsAsBatch dropped us → EndsAsBatch dropped (u ∷ us)

-- `\` or `/`
abbrev pub is_separator : ℕ → Bool
is_separator u = nat_eq u 0x5C || nat_eq u 0x2F

-- The last component has only units that are dropped, and one at least. The units are the rest of a path, from the start of a component on or not:
-- they are that component;
-- or it comes after some more units.
pub data EndsInDots (dropped : ℕ → Type 0) : Bool → List ℕ → Type 0 where
  here : (u : ℕ) (us : List ℕ) → dropped u → AllByRecursion dropped us → EndsInDots dropped true (u ∷ us)
  later : (first : Bool) (u : ℕ) (us : List ℕ) → EndsInDots dropped (is_separator u) us → EndsInDots dropped first (u ∷ us)

-- the program of this path is a batch file; or it may be one, since its last component is `.` or `..`, and only the full path shows which file that is
abbrev pub NeedsCmd : List ℕ → Type 0
NeedsCmd path = EndsAsBatch (IsDropped path) path ⊎ EndsInDots (IsDropped path) true path
