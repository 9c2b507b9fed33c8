use Rattle.path_rules.proofs.lemmas.KeyLists.{keys_found}
use Rattle.path_rules.proofs.by_components.ByComponents.new.Goals as goal

pub returns : goal.returns
returns c =
    let p = c.new-parsed.result in
    rw (← c.new-parsed.ensures.style, ← c.new-parsed.ensures.whole) (keys_found p.style p.whole.now c.head-rules.result p.prefix p.rest.now c.as_slice.result.now c.as_slice.ensures c.head-rules.ensures.parts c.head-rules.ensures.items p.found)
