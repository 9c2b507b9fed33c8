use Rattle.path_building.proofs.lemmas.Bases.{free_names}
use Rattle.path_building.proofs.base.are_names_free.Goals as goal

pub returns : goal.returns
returns c =
    let p = c.args.path.now in free_names p.style p.whole.now c.head-head.result c.are_free.result c.head-head.ensures.items c.are_free.ensures
