-- A list in a buffer that may be too short for it (this project's own words).
use Rattle.std.specs.Prelude.{◌≡◌, ℕ, List, length, take, drop}

-- the buffer, whose content was `old`, begins with the list, truncated to the buffer's length, and after it is as it was; `count` is the length of the whole list
pub record IsTruncated (list old new : List ℕ) (count : ℕ) : Type 0 where
  pub same_length : length new ≡ length old
  pub count_is : count ≡ length list
  pub prefix : take (length old) list ≡ take count new
  pub after : drop count new ≡ drop count old
