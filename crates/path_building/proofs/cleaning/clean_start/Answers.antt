use Rattle.std.proofs.Common.{map}
use Rattle.path_rules.specs.Views.{item_of}
use Rattle.path_rules.proofs.lemmas.Fields.{empty_from}
use Rattle.path_building.proofs.lemmas.Forms.{clean_after, clean_bare, some_bytes}
use Rattle.path_building.proofs.cleaning.clean_start.Goals as goal

pub returns-then-not-is_empty-clause-shield : goal.returns-then-not-is_empty-clause-shield
returns-then-not-is_empty-clause-shield c =
    let head = c.args.head in
    let some = some_bytes head.prefix.now c.is_empty.result c.is_empty.ensures c.if-not-is_empty.true in clean_after c.args.style head.prefix.now head.start (map item_of c.args.names.now) some (c.requires some)

pub returns-in_default-clause-shield : goal.returns-in_default-clause-shield
returns-in_default-clause-shield c =
    let head = c.args.head in
    let names = map item_of c.args.names.now in
    clean_bare c.args.style head.prefix.now head.start c.bare_start.result names (empty_from head.prefix.now c.is_empty.result c.if-not-is_empty.false c.is_empty.ensures) c.in_default.not-Root c.bare_start.ensures.shield
