use Rattle.os_ignore.specs.Ignores.{files_of}
use Rattle.test_path_uses.proofs.HiddenBelow.{hidden_too}
use Rattle.test_path_uses.proofs.ignored.above_and_below.Goals as goal

pub returns : goal.returns
returns g c = λ ignored.
    let hidden = hidden_too (files_of c.args.ignore.now) c.args.path.now c.args.slash c.args.is_dir c.matched.result c.requires.within c.requires.is_slash c.matched.ensures ignored in
    c.one_verdict.ensures (files_of c.args.ignore.now) c.args.path.now c.args.is_dir c.matched.result c.matched-2.result hidden c.matched-2.ensures
