use Rattle.path_rules.specs.Views.{item_of}
use Rattle.test_path_uses.proofs.ReadParts.{rest_after}
use Rattle.test_path_uses.proofs.read_parts.after_name.Goals as goal

pub returns-in-Some : goal.returns-in-Some
returns-in-Some c = λ name item separator more j p s n. rest_after c.args.rules c.args.body.now c.in-Some.rest.now name more (item_of c.in-Some.field-0-0) item separator c.in-Some.ensures.first j p s n
