use Rattle.test_uses.proofs.SomeIndex.{some_where_it_occurs}
use Rattle.test_uses.proofs.somewhere.contains_as_split_once.Goals as goal

pub returns : goal.returns
returns g c = some_where_it_occurs _ _ c.contains.ensures.bytes c.split_once.ensures.bytes (λ nowhere somewhere. nowhere somewhere.0 somewhere.1) (λ _ is. (_, is.found.occurs))
