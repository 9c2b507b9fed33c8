-- A needle of one byte occurs where the byte is.
use Rattle.std.proofs.Common.{◌≡◌, ℕ, ◌<◌, List, length, Option, arith, slice_index}
use Rattle.memchr.specs.Find.{IsFirstByte, IsLastByte, FindsNeedle, FindsLastNeedle, is_byte, OccursAt as NeedleOccursAt}
use Rattle.memchr.proofs.lemmas.FindLemmas.{OccursAt-byte, byte-OccursAt, IsFirst-agree, IsFirst-wider, IsLast-agree, IsLast-wider}

module _ (s p : List ℕ) (one : length p ≡ 1) where
  below : (k : ℕ) → NeedleOccursAt s p k → k < length s
  below k o = let fits = o.fits in omega arith

  -- so the first byte is the first occurrence, and the last the last
  pub first_byte_of_needle : (r : Option ℕ) → IsFirstByte (is_byte (slice_index p 0)) s r → FindsNeedle s p 0 r
  first_byte_of_needle r f = IsFirst-wider _ 0 _ _ (omega arith) below r (IsFirst-agree _ _ 0 _ (OccursAt-byte s p one) (λ k _. byte-OccursAt s p one k) r f)

  pub last_byte_of_needle : (r : Option ℕ) → IsLastByte (is_byte (slice_index p 0)) s r → FindsLastNeedle s p r
  last_byte_of_needle r f = IsLast-wider _ 0 _ _ (omega arith) below r (IsLast-agree _ _ 0 _ (OccursAt-byte s p one) (λ k _. byte-OccursAt s p one k) r f)
