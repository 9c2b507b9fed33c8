use Rattle.path_rules.proofs.lemmas.KeyAlike.{keys_alike}
use Rattle.path_rules.proofs.laws.alike_keys.Goals as goal

pub returns : goal.returns
returns c = λ style s t keys others a b. keys_alike style s t keys others a b
