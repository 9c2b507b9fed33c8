use Rattle.os_ignore.specs.Ignores.{files_of}
use Rattle.test_path_uses.proofs.ignored.one_verdict.Goals as goal

pub returns : goal.returns
returns g c = λ said k. c.one_verdict.ensures (files_of c.args.ignore.now) c.args.path.now c.args.is_dir c.matched.result said c.matched.ensures k
