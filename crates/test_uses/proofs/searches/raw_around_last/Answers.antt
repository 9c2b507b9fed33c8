use Rattle.wtf8_core.specs.Occurrence.{IsLastIndex}
use Rattle.test_uses.proofs.Around.{parts_around}
use Rattle.test_uses.proofs.searches.raw_around_last.Goals as goal

pub returns : goal.returns
returns g c = parts_around IsLastIndex _ _ _ _ c.in-Some.at c.in-Some.ensures.bytes c.in-Some.ensures.bytes.occurs c.split_at.ensures.front c.split_at-2.ensures.back
