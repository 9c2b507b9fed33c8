use Rattle.path_rules.specs.Keys.{keys_of}
use Rattle.path_rules.proofs.lemmas.KeyAlike.{keys_equal}
use Rattle.path_rules.proofs.laws.comparisons.Goals as goal

pub returns-clause-equal : goal.returns-clause-equal
returns-clause-equal c = keys_equal (keys_of c.args.a.now) (keys_of c.args.b.now)
