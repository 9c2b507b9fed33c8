use Rattle.std.proofs.Common.{◌≡◌, ◌+◌, drop, take, MatchOption}
use Rattle.std.specs.Range.{range_inclusive_start, range_inclusive_end}
use Rattle.platform_str.specs.Strings.{bytes}
use Rattle.os_str_ext.specs.Range.{FitsIn}
use Rattle.test_uses.proofs.ranges.between_inclusive.Goals as goal

pub returns : goal.returns
returns g c =
    let range = c.new.result in
    let of_range : MatchOption c.part.result (¬ (FitsIn (bytes c.args.string) (range_inclusive_start range) (range_inclusive_end range + 1))) (λ part. bytes part ≡ drop (range_inclusive_start range) (take (range_inclusive_end range + 1) (bytes c.args.string))) = c.part.ensures in
    rw (c.new.ensures.start, c.new.ensures.end) at of_range
