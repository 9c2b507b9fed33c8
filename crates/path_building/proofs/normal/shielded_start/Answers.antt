use Rattle.std.proofs.Common.{map, subst, sym, ◌++◌}
use Rattle.path_rules.specs.Views.{item_of}
use Rattle.path_rules.specs.Heads.{prefix_items, start_items}
use Rattle.path_building.specs.Normalized.{IsShielded}
use Rattle.path_rules.proofs.lemmas.Fields.{empty_from}
use Rattle.path_building.proofs.normal.shielded_start.Goals as goal

pub returns-then-is_empty-clause-shield : goal.returns-then-is_empty-clause-shield
returns-then-is_empty-clause-shield c =
    let names = map item_of c.args.names.now in
    subst (λ z. IsShielded c.args.style (prefix_items z ++ (start_items c.args.head.start ++ names)) (prefix_items z ++ (start_items c.shielded.result ++ names))) (sym (empty_from c.args.head.prefix.now c.is_empty.result c.if-is_empty.true c.is_empty.ensures)) c.shielded.ensures.shield
