use Rattle.std.proofs.Common.{Some, None}
use Rattle.os_str_ext.proofs.lemmas.Needles.{first_after}
use Rattle.os_str_ext.proofs.needle.first_from.Goals as goal

pub returns-in-Some : goal.returns-in-Some
returns-in-Some c = first_after c.args.bytes.now c.args.needle.now c.args.from c.requires (Some c.in-Some.at) (rw c.split_at.ensures.back at c.in-Some.ensures)

pub returns-in-None : goal.returns-in-None
returns-in-None c = first_after c.args.bytes.now c.args.needle.now c.args.from c.requires None (rw c.split_at.ensures.back at c.in-None.ensures)
