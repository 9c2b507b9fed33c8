use Rattle.std.proofs.Common.{map}
use Rattle.list_programs.specs.Arguments.{text_of}
use Rattle.list_programs.proofs.lemmas.Values.{one_value, no_value}
use Rattle.list_programs.proofs.arguments.values.Goals as goal

pub loop-left-preserved : goal.loop-left-preserved
loop-left-preserved g c = one_value c.args.option c.args.given.now c.loop-left.left.now _ (map text_of c.loop-left.values.items) (map text_of c.push_value.new.values.items) c.in-len1-up.len_at_least c.first-item.is c.loop-left.invariant c.in-Ok.ensures

pub returns : goal.returns
returns g c = no_value c.args.option c.args.given.now c.loop-left.left.now (map text_of c.loop-left.values.items) c.in_default.len_below c.loop-left.invariant
