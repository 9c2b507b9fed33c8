use Rattle.std.proofs.Common.{◌∷◌, ◌++◌, [], map, sym, ap, ◌∙◌, append_assoc}
use Rattle.std.proofs.lemmas.List.{append-nil}
use Rattle.os_ignore.proofs.lemmas.Tags.{nil_of_length}
use Rattle.os_ignore.proofs.file.line_tags.Goals as goal

pub loop-line-preserved : goal.loop-line-preserved
loop-line-preserved g c =
    let items = c.loop-line.tags.items in
    let rest = map (λ line. line.tag) c.in-Some.rest.now in
    ap (λ z. z ++ rest) c.in_ok-push.ensures.items ∙ append_assoc items (c.in-Some.line.now.tag ∷ []) rest
    ∙ ap (λ z. items ++ map (λ line. line.tag) z) (sym c.in-Some.ensures.cases.0) ∙ c.loop-line.invariant

pub returns : goal.returns
returns g c =
    let items = c.loop-line.tags.items in
    sym (append-nil items)
    ∙ ap (λ z. items ++ map (λ line. line.tag) z) (sym (nil_of_length c.loop-line.left.now c.in_default.ensures.cases))
    ∙ c.loop-line.invariant
