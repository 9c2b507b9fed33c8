-- The length of the character or of the ill-formed part at the start, by the first four bytes.
use Rattle.wtf8_core.proofs.Common.{nat_tests, ◌≡◌, ℕ, ◌<◌, ◌≤◌, List, get_or, length, true, refl, is_in_range, second_byte_min, second_byte_max, IsContinuation, WholeCharacter}
use Rattle.wtf8_core.proofs.lemmas.characters.{AtIndices.ascii_first, FourBytes.four_first, FourBytes.at_first, FourBytes.at_second, FourBytes.at_third, FourBytes.at_fourth, FourBytes.second_of_two, FourBytes.no_second_of_two, FourBytes.two_long, FourBytes.three_long, FourBytes.four_long}

module _ (r : List ℕ) (long : 4 ≤ length r) where
  pub one_fits : get_or r 0 0 < 0x80 → WholeCharacter r 0 1
  one_fits l = (ascii_first r _ _ (four_first r long) l).0

  module _ (high : 0x80 ≤ get_or r 0 0) (f : is_in_range 0xC2 0xF4 (get_or r 0 0) ≡ true) where
    pub two_fits : get_or r 0 0 < 0xE0 → IsContinuation (get_or r 1 0) → WholeCharacter r 0 2
    two_fits l k = (two_long r long high f (second_of_two _ _ l k) _ l refl).1.0

    module _ (g : is_in_range (second_byte_min (get_or r 0 0)) (second_byte_max (get_or r 0 0)) (get_or r 1 0) ≡ true) where
      pub three_fits : 0xE0 ≤ get_or r 0 0 → get_or r 0 0 < 0xF0 → IsContinuation (get_or r 2 0) → WholeCharacter r 0 3
      three_fits h l k = (three_long r long high f g _ h l k refl).1.0

      pub four_fits : 0xF0 ≤ get_or r 0 0 → IsContinuation (get_or r 2 0) → IsContinuation (get_or r 3 0) → WholeCharacter r 0 4
      four_fits h k j = (four_long r long high f g _ h k j refl).1.0

pub ruleset lengths = (nat_tests, one_fits, two_fits, three_fits, four_fits, at_first, at_second, no_second_of_two, at_third, at_fourth)
