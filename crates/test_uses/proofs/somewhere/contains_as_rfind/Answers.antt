use Rattle.test_uses.proofs.SomeIndex.{some_where_it_occurs}
use Rattle.test_uses.proofs.somewhere.contains_as_rfind.Goals as goal

pub returns : goal.returns
returns g c = some_where_it_occurs _ _ c.contains.ensures.bytes c.rfind.ensures.bytes (λ nowhere somewhere. nowhere somewhere.0 somewhere.1) (λ at is. (at, is.occurs))
