use Rattle.path_building.proofs.lemmas.Bases.{is_base}
use Rattle.path_building.proofs.base.Base.parsed.Goals as goal

pub returns-clause-base : goal.returns-clause-base
returns-clause-base c = let it = c.args.self.now in is_base it.parsed.style it.parsed.whole.now it.complete
