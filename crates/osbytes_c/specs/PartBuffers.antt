-- Components in an array that may be too short for them.
use Rattle.std.specs.Prelude.{◌≡◌, ℕ, List, length, take, drop, ◌++◌}
use Rattle.osbytes_c.specs.declared.paths.part_list.Part.{Part}

-- the array, whose content was `old`, begins with the components, truncated to the array's length, and after them it is unchanged; `count` is the number of components there are
pub record PartsTruncated (parts old new : List Part) (count : ℕ) : Type 0 where
  pub same_length : length new ≡ length old
  pub count_is : count ≡ length parts
  pub prefix : take (length old) parts ≡ take count new
  pub after : drop count new ≡ drop count old

-- `more` is appended to `count` components in an array, truncated to the array's length, and `len` is how many both are
abbrev pub PushesPart : List Part → List Part → ℕ → List Part → ℕ → Type 0
PushesPart more old count new len = (parts buffer : List Part) → PartsTruncated parts buffer old count → PartsTruncated (parts ++ more) buffer new len
