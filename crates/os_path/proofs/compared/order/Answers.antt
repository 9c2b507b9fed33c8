use Rattle.path_rules.specs.Keys.{keys_of}
use Rattle.os_path.proofs.compared.order.Goals as goal

pub returns : goal.returns
returns c = record { keys = keys_of c.new-one.result; other_keys = keys_of c.new-two.result; keyed = c.new-one.ensures; other_keyed = c.new-two.ensures; is = c.cmp.ensures }
