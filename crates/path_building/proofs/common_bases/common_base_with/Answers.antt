use Rattle.path_building.proofs.lemmas.CommonBases.{has_its_top}
use Rattle.path_building.proofs.common_bases.common_base_with.Goals as goal

pub shared-requires : goal.shared-requires
shared-requires c = (c.args.first.now, (c.requires, has_its_top c.args.style c.args.first.now c.args.path.now (c.have_one_prefix.ensures.0 c.if-not-have_one_prefix.false, c.have_one_root.ensures.0 c.if-not-have_one_root.false)))

pub returns-clause-ok : goal.returns-clause-ok
returns-clause-ok c = ((c.have_one_prefix.ensures.0 c.if-not-have_one_prefix.false, c.have_one_root.ensures.0 c.if-not-have_one_root.false), c.shared.ensures)
