use Rattle.os_ignore.proofs.lemmas.Below.{own_at_top}
use Rattle.os_ignore.proofs.walk.decide_in.Goals as goal

pub returns-in-Some : goal.returns-in-Some
returns-in-Some g c =
    let at = rw c.in-Some.is at c.requires.verdict in
    c.in_directory.ensures at.0 at.1 at.2.1.1 at.2.0 at.2.1.0

pub returns-in-None : goal.returns-in-None
returns-in-None g c =
    let plain = rw c.in-None.is at c.requires.verdict in
    own_at_top c.args.files.now c.args.path.now c.args.is_dir c.own.result plain c.own.ensures
