use Rattle.std.proofs.Common.{inl, inr, map, sym, ap, subst}
use Rattle.path_rules.specs.Components.{AreComponents}
use Rattle.path_rules.specs.Views.{item_of}
use Rattle.path_building.proofs.lemmas.Joins.{refuted}
use Rattle.path_building.proofs.relative.candidate.Goals as goal

pub returns-then-is_one_odd : goal.returns-then-is_one_odd
returns-then-is_one_odd g c = inr (inl (c.is_one_absolute.ensures.no c.if-is_one_absolute.false, c.is_one_odd.ensures.0 c.if-is_one_odd.true))

pub returns : goal.returns
returns g c =
    let w = c.args.style in
    let first = ap (map item_of) c.deref.ensures.value in
    let second = ap (map item_of) c.deref-2.ensures.value in
    inr (record {
      us = map item_of c.apart.result.0.now;
      vs = map item_of c.after_dot-wanted.result.now;
      left = record {
        items = map item_of c.deref.result.now;
        base_items = map item_of c.deref-2.result.now;
        both = c.is_one_absolute.ensures.no c.if-is_one_absolute.false;
        even = refuted _ c.is_one_odd.result c.is_one_odd.ensures c.if-is_one_odd.false;
        are = subst (AreComponents w c.args.path.now) (sym first) c.in_ok-items.ensures;
        base_are = subst (AreComponents w c.args.base.now) (sym second) c.in_ok-base_items.ensures;
        left = map item_of c.apart.result.1.now;
        apart = c.apart.ensures;
        wanted = c.after_dot-wanted.ensures;
      };
      inside = refuted _ c.begins_up.result c.begins_up.ensures c.if-begins_up.false;
      way = c.in_ok-way.ensures;
    })
