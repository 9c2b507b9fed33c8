use Rattle.platform_str.proofs.Common.{◌≡◌, ◌++◌, ◌+◌, length, take, drop, flat_map}
use Rattle.platform_str.specs.FromWide.{word_bytes}
use Rattle.platform_str.proofs.from_wide.put_words.Given as goal

abbrev pub invariant-loop-i : goal.invariant-loop-i
invariant-loop-i l =
    (take l.end l.bytes ++ flat_map word_bytes (drop l.i l.words) ≡ take l.at l.fn.bytes ++ flat_map word_bytes l.words)
    × (l.end + length (flat_map word_bytes (drop l.i l.words)) ≡ l.at + length (flat_map word_bytes l.words))
    × (length l.bytes ≡ length l.fn.bytes)
