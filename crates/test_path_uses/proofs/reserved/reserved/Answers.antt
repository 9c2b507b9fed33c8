use Rattle.test_path_uses.proofs.Names.{by_space, by_colon, as_device}
use Rattle.test_path_uses.proofs.reserved.reserved.Goals as goal

pub returns-clause-space : goal.returns-clause-space
returns-clause-space c = λ before e. c.is_reserved.ensures.1 (by_space _ before e)

pub returns-clause-colon : goal.returns-clause-colon
returns-clause-colon c = λ before after e. c.is_reserved.ensures.1 (by_colon _ before after e)

pub returns-clause-device : goal.returns-clause-device
returns-clause-device c = λ t n b. as_device _ (c.is_reserved.ensures.0 t) n b
