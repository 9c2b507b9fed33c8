use Rattle.test_path_uses.proofs.joined.base_and_rest_alike.Goals as goal

pub returns-in-Ok : goal.returns-in-Ok
returns-in-Ok g c = (c.in-Some.ensures.0, λ read are same some plain relative prefix. c.strip_joined.ensures.alike _ _ _ _ _ _ read c.in-Some.ensures.1 are same some plain relative c.in-Ok.ensures prefix)
