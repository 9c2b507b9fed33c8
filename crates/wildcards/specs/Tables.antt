-- Places in buckets, by their keys: only private contracts name this.
use Rattle.std.specs.Prelude.{ℕ, zero, suc, Bool, true, false, ◌+◌, ◌*◌, ◌%◌, ◌-◌, List, [], ◌∷◌, length, map, nat_eq, bit_and, if◌then◌else◌}
use Rattle.std.specs.Char.{to_ascii_lowercase}
use Rattle.std.specs.Hash.FoldHasher.{initial, write, finish}
use Rattle.std.specs.declared.vec.Vec.{Vec}

-- a number for bytes that follow others with this one
abbrev pub digest_after : ℕ → List ℕ → ℕ
digest_after number [] = number
digest_after number (b ∷ bs) = digest_after ((number * 31 % 18446744073709551616 + b) % 18446744073709551616) bs

-- a number for a text, or for its small letters
abbrev pub digest_of : Bool → List ℕ → ℕ
digest_of false text = finish (write initial text)
digest_of true text = digest_after 0 (map to_ascii_lowercase text)

-- the index of the key's bucket, of `count` buckets
abbrev pub slot_of : Bool → ℕ → List ℕ → ℕ
slot_of folds count key = if nat_eq count 0 then 0 else bit_and (digest_of folds key) (count - 1)

module _ {X A : Type 0} where
  -- what is in a bucket; nothing past the last
  abbrev pub places_at : List (Vec X A) → ℕ → List X
  places_at [] slot = []
  places_at (b ∷ bs) zero = b.items
  places_at (b ∷ bs) (suc slot) = places_at bs slot

  -- what is in a key's bucket
  abbrev pub bucket : Bool → List (Vec X A) → List ℕ → List X
  bucket folds buckets key = places_at buckets (slot_of folds (length buckets) key)
