use Rattle.os_str_ext.proofs.lemmas.Needles.{no_candidate, candidate}
use Rattle.os_str_ext.proofs.needle.next_candidate.Goals as goal

pub returns-in-Some : goal.returns-in-Some
returns-in-Some c = λ needle is. let found = rw c.split_at.ensures.back at c.in-Some.ensures in candidate c.args.bytes.now needle c.args.finder.now is c.args.from c.requires c.in-Some.at found.0

pub returns-in-None : goal.returns-in-None
returns-in-None c = λ needle is. no_candidate c.args.bytes.now needle c.args.finder.now is c.args.from c.requires (rw c.split_at.ensures.back at c.in-None.ensures)
