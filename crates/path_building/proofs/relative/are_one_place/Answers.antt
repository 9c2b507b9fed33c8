use Rattle.std.proofs.Common.{map, sym, ap, subst}
use Rattle.path_rules.specs.Views.{item_of}
use Rattle.path_building.specs.Relative.{IsPlace}
use Rattle.path_building.proofs.lemmas.Places.{same_place}
use Rattle.path_building.proofs.relative.are_one_place.Goals as goal

pub returns : goal.returns
returns g c =
    let w = c.args.style in
    let first = subst (IsPlace w c.args.path.now) (sym (ap (map item_of) c.deref.ensures.value)) c.in_ok-first.ensures in
    let second = subst (IsPlace w c.args.other.now) (sym (ap (map item_of) c.deref-2.ensures.value)) c.in_ok-second.ensures in
    same_place w c.args.path.now c.args.other.now (map item_of c.deref.result.now) (map item_of c.deref-2.result.now) c.are_all_alike.result first second c.are_all_alike.ensures
