use Rattle.std.proofs.Common.{◌∷◌, []}
use Rattle.path_rules.specs.Component.{Normal}
use Rattle.test_path_uses.proofs.ReadParts.{two_names}
use Rattle.test_path_uses.proofs.read_parts.between_names.Goals as goal

pub returns-clause-names : goal.returns-clause-names
returns-clause-names c = λ first second are. two_names c.args.style c.args.path.now first second (c.divided.ensures c.args.style c.args.path.now (Normal first ∷ Normal second ∷ []) are)
