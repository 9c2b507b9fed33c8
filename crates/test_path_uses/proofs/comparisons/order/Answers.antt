use Rattle.std.proofs.Common.{refl, ap, ◌∙◌}
use Rattle.path_rules.specs.Keys.{keys_cmp}
use Rattle.os_path.specs.Keys.{path_keys}
use Rattle.test_path_uses.proofs.comparisons.order.Goals as goal

pub returns : goal.returns
returns g c = λ keys others h k.
    let first = (c.alike_keys.ensures _ _ _ _ _ c.new-path.ensures.keys h).1 ((c.alike_keys.ensures _ _ _ _ _ c.new-path.ensures.keys c.new-path.ensures.keys).0 refl) in
    let second = (c.alike_keys.ensures _ _ _ _ _ c.new-other.ensures.keys k).1 ((c.alike_keys.ensures _ _ _ _ _ c.new-other.ensures.keys c.new-other.ensures.keys).0 refl) in
    c.cmp.ensures ∙ ap (λ x. keys_cmp x (path_keys c.new-other.result)) first ∙ ap (keys_cmp keys) second
