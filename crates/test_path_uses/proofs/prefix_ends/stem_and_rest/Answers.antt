use Rattle.test_path_uses.proofs.prefix_ends.stem_and_rest.Goals as goal

pub returns-in-Some : goal.returns-in-Some
returns-in-Some c = c.stem_joined.ensures c.args.name.now c.stem.result.now c.in-Some.ensures.0 c.in-Some.rest.now c.stem.ensures c.in-Some.ensures.1
