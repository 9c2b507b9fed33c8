use Rattle.wtf8_core.proofs.lemmas.units.{PrefixTests.never, FirstAndLast.no_first_item, FirstAndLast.first_item_err, FirstAndLast.first_item_ok}
use Rattle.wtf8_core.proofs.halves.begins_with_unit.Goals as goal

pub returns-in-None : goal.returns-in-None
returns-in-None c = never _ (no_first_item c.args.string.now c.args.unit c.encode_wide.result c.requires c.encode_wide.ensures c.in-None.ensures.steps.0)

pub returns-in-Some-Err : goal.returns-in-Some-Err
returns-in-Some-Err c = never _ (first_item_err c.args.string.now c.args.unit c.encode_wide.result _ _ c.in-Some-Err.field-0-0 c.requires c.encode_wide.ensures c.in-Some-Err.ensures.steps c.in-Some-Err.field-0-is)

pub returns-in-Some-Ok : goal.returns-in-Some-Ok
returns-in-Some-Ok c = first_item_ok c.args.string.now c.in-Some-Ok.first c.args.unit c.encode_wide.result _ _ c.requires c.encode_wide.ensures c.in-Some-Ok.ensures.steps c.in-Some-Ok.field-0-is
