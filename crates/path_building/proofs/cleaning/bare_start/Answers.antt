use Rattle.std.proofs.Common.{map}
use Rattle.path_rules.specs.Views.{item_of}
use Rattle.path_building.proofs.lemmas.Forms.{or_dot_some, map_some}
use Rattle.path_building.proofs.cleaning.bare_start.Goals as goal

pub returns-clause-shield : goal.returns-clause-shield
returns-clause-shield c = or_dot_some c.args.style (map item_of c.args.names.now) _ (map_some item_of c.args.names.now c.is_empty.result c.is_empty.ensures c.if-is_empty.false) c.shielded.ensures.shield
