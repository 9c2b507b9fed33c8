use Rattle.path_rules.proofs.lemmas.Alike.{and_then, swapped}
use Rattle.path_building.proofs.lemmas.CommonBases.{one_root_by}
use Rattle.path_building.proofs.common_bases.have_one_root.Goals as goal

pub returns : goal.returns
returns c = and_then c.are_one_root.ensures (swapped (one_root_by c.args.style c.args.path.now c.args.other.now c.head_of-2.result c.head_of.result c.head_of-2.ensures.items c.head_of.ensures.items))
