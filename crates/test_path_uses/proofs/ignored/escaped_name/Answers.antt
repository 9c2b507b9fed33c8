use Rattle.std.proofs.Common.{false}
use Rattle.os_ignore.specs.Letters.{escaped}
use Rattle.test_path_uses.proofs.ignored.escaped_name.Goals as goal

pub returns : goal.returns
returns g c = λ name line again l p h k.
    let own = c.escaped_alone.ensures name line l p h in
    let more = c.taken_in_again.ensures false (escaped name) line again h k own.0 in
    (more.0, λ path is_dir last. (more.1 path is_dir).0 ((own.1 path is_dir).1 last))
