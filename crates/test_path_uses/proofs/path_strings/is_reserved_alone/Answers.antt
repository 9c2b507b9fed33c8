use Rattle.std.proofs.Common.{◌∷◌, [], inl}
use Rattle.path_rules.specs.Component.{Normal}
use Rattle.test_path_uses.proofs.path_strings.is_reserved_alone.Goals as goal

pub returns : goal.returns
returns c = λ name are reserved. c.is_reserved.ensures.1 (Normal name ∷ [], (are, inl reserved))
