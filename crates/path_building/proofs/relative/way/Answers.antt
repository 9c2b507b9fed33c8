use Rattle.std.proofs.Common.{◌≡◌, ◌++◌, inr, map, sym, ap, ◌∙◌, subst}
use Rattle.path_rules.specs.Views.{item_of}
use Rattle.path_building.specs.Relative.{up_from, BeginsAtTop, AreWritten, IsWay}
use Rattle.path_building.proofs.lemmas.Forms.{if_ok}
use Rattle.path_building.proofs.lemmas.Joins.{refuted}
use Rattle.path_building.proofs.lemmas.Places.{below_top}
use Rattle.path_building.proofs.relative.way.Goals as goal

pub names_written-requires : goal.names_written-requires
names_written-requires g c =
    let us = map item_of c.args.left.now in
    let ups = up_from (map item_of c.args.wanted.now) in
    let names : map item_of c.deref.result.now ≡ ups ++ us = ap (map item_of) c.deref.ensures.value ∙ c.in_ok-add_names.ensures ∙ ap (λ z. z ++ us) (c.in_ok-add_ups.ensures ∙ ap (λ z. map item_of z ++ ups) c.new-names.ensures.items) in
    subst (λ z. ¬ (BeginsAtTop z)) (sym names) (below_top (map item_of c.args.wanted.now) us (refuted _ c.begins_at_top.result c.begins_at_top.ensures c.if-begins_at_top.false))

pub returns : goal.returns
returns g c =
    let w = c.args.style in
    let us = map item_of c.args.left.now in
    let vs = map item_of c.args.wanted.now in
    let names : map item_of c.deref.result.now ≡ up_from vs ++ us = ap (map item_of) c.deref.ensures.value ∙ c.in_ok-add_names.ensures ∙ ap (λ z. z ++ us) (c.in_ok-add_ups.ensures ∙ ap (λ z. map item_of z ++ up_from vs) c.new-names.ensures.items) in
    if_ok (λ z. AreWritten w (map item_of c.deref.result.now) z.items) (λ z. IsWay w c.args.path.now us vs z.items) c.names_written.result
    (λ z h. inr (refuted _ c.begins_at_top.result c.begins_at_top.ensures c.if-begins_at_top.false, subst (λ x. AreWritten w x z.items) names h)) c.names_written.ensures
