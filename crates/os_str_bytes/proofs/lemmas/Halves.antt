-- The ranges up to an index at which a string may be cut, and from it on.
use Rattle.std.proofs.Common.{ℕ, List, length, inl, inr, refl, arith}
use Rattle.wtf8_core.specs.Boundary.{IsBoundary}
use Rattle.wtf8_core.proofs.lemmas.characters.Overlaps.{boundary_within}
use Rattle.os_str_ext.specs.Range.{FitsIn}

pub prefix_fits : (s : List ℕ) (i : ℕ) → IsBoundary s i → FitsIn s 0 i
prefix_fits s i b = record { ordered = omega arith; within = boundary_within s i b; start = record { is = inl refl }; end = b }

pub suffix_fits : (s : List ℕ) (i : ℕ) → IsBoundary s i → FitsIn s i (length s)
suffix_fits s i b = record { ordered = boundary_within s i b; within = omega arith; start = b; end = record { is = inr (inl refl) } }
