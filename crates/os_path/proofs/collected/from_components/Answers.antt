use Rattle.std.proofs.Common.{ap, ◌∙◌, subst}
use Rattle.platform_str.specs.Strings.{bytes, path_vec_of}
use Rattle.path_building.specs.Collected.{string_of}
use Rattle.path_building.specs.Join.{IsJoin}
use Rattle.path_building.proofs.lemmas.Collects.{pushed_on}
use Rattle.os_path.specs.Views.{os_item_of}
use Rattle.os_path.proofs.lemmas.Collects.{pushed_none}
use Rattle.os_path.proofs.collected.from_components.Goals as goal

pub loop-left-preserved : goal.loop-left-preserved
loop-left-preserved g c = λ made h.
    let w = g.E.PathStyle.follows in
    let old = (path_vec_of c.loop-left.path).items in
    let new = (path_vec_of c.push.new.path).items in
    c.loop-left.invariant made
    (pushed_on os_item_of w c.loop-left.left.now _ old new (bytes c.as_string.result) made c.in-len1-up.len_at_least (c.as_string.ensures ∙ ap (λ x. string_of w (os_item_of x)) c.component-item.is) (subst (λ z. IsJoin w old z new) c.new.ensures c.in_ok-push.ensures.ok) h)

pub returns : goal.returns
returns g c =
    let path = (path_vec_of c.loop-left.path).items in c.loop-left.invariant path (pushed_none os_item_of g.E.PathStyle.follows c.loop-left.left.now path c.in_default.len_below)
