use Rattle.os_path.specs.Keys.{path_keys}
use Rattle.path_rules.proofs.lemmas.KeyAlike.{keys_equal}
use Rattle.os_path.proofs.laws.comparisons.Goals as goal

pub returns-clause-equal : goal.returns-clause-equal
returns-clause-equal g c = keys_equal (path_keys c.args.a.now) (path_keys c.args.b.now)
