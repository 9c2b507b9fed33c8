-- The first unit of a string that begins with no whole character.
use Rattle.platform_str.proofs.Common.{◌≡◌, ℕ, ◌<◌, List, ◌∷◌, length, arith, StartsWithNoCharacter, units_of, IsWtf8, IsFirstUnit, nat_tests, common_steps}
use Rattle.wtf8_core.proofs.lemmas.chunks.PartUnits.{first_unit}

-- it has three bytes
pub first_is_unit : {b us : List ℕ} {u : ℕ} → IsWtf8 b → 0 < length b → StartsWithNoCharacter b → units_of b ≡ u ∷ us → IsFirstUnit IsWtf8 units_of b u 3
first_is_unit {b} {us} {u} w some uncovered e = grind (arith, nat_tests, common_steps, first_unit)
