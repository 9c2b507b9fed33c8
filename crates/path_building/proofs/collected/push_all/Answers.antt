use Rattle.path_rules.specs.Views.{item_of}
use Rattle.path_building.proofs.lemmas.Collects.{pushed_on}
use Rattle.path_building.proofs.collected.push_all.Goals as goal

pub loop-left-preserved : goal.loop-left-preserved
loop-left-preserved g c = λ made h.
    c.loop-left.invariant made
    (pushed_on item_of c.args.style c.loop-left.left.now _ c.loop-left.path.items c.push.new.base.items c.as_string.result.now made c.in-len1-up.len_at_least c.as_string.ensures c.in_ok-push.ensures.ok h)
