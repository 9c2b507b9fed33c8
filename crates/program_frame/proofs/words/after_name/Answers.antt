use Rattle.std.proofs.Common.{ap, ◌∙◌}
use Rattle.std.proofs.lemmas.Iterator.{items_from_collect}
use Rattle.std.proofs.lemmas.Iterator.Adapters.{YieldsList-from_vec, YieldsList-from_skip}
use Rattle.std.specs.Vec.Iter.{into_iter_items, into_iter_len}
use Rattle.program_frame.proofs.words.after_name.Goals as goal

pub returns : goal.returns
returns g c =
    let source = c.skip.ensures.source in
    let all = YieldsList-from_vec (into_iter_items c.args.args) (ap into_iter_items source) (ap into_iter_len source ∙ c.args.args.rest.ok.0) in
    items_from_collect c.collect.result c.collect.ensures.ran (YieldsList-from_skip 1 all c.skip.ensures.count)
