use Rattle.platform_str.proofs.{Common.◌≡◌, Common.◌+◌, Common.length, Common.pairs, lemmas.FromWideCounts.counted}
use Rattle.platform_str.proofs.from_wide.wtf8_len.Given as goal

abbrev pub invariant-loop-rest : goal.invariant-loop-rest
invariant-loop-rest l =
    (l.len + counted l.rest ≡ counted l.units) × (l.pairs + pairs l.rest ≡ pairs l.units)

abbrev pub decreases-loop-rest : goal.decreases-loop-rest
decreases-loop-rest l = length l.rest
