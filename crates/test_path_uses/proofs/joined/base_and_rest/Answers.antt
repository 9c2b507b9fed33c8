use Rattle.test_path_uses.proofs.joined.base_and_rest.Goals as goal

pub returns-in-Ok : goal.returns-in-Ok
returns-in-Ok g c = λ items are. c.strip_joined.ensures.unix _ _ _ _ c.in-Some.ensures.0 c.in-Some.ensures.1 c.in-Ok.ensures items are
