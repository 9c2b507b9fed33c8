use Rattle.platform_str.proofs.Common.{none_begins, part_at_start, never_uncovered, rules, common_steps}
use Rattle.platform_str.proofs.unix.UnixPlatform.lossy_len.Goals as goal

pub replaced_len-requires-clause-part : goal.replaced_len-requires-clause-part
replaced_len-requires-clause-part c = search (rules, common_steps, part_at_start, none_begins, c.requires.some, c.requires.uncovered, c.in-Some.ensures)

pub returns-in-None : goal.returns-in-None
returns-in-None c = absurd (never_uncovered c.args.bytes.now c.in-None.ensures c.requires.some c.requires.uncovered)
