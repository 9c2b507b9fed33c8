use Rattle.std.proofs.Common.{inl, inr, subst}
use Rattle.std.specs.Option.{option_map}
use Rattle.path_building.specs.Join.{IsJoin}
use Rattle.path_building.specs.Relative.{IsCandidateOrNone, AreOnePlace}
use Rattle.path_building.proofs.lemmas.Joins.{refuted}
use Rattle.path_building.proofs.relative.relative_from.Goals as goal

pub returns-in_default : goal.returns-in_default
returns-in_default g c = inl (subst (λ z. IsCandidateOrNone c.args.style c.args.path.now c.args.base.now (option_map (λ v. v.items) z)) c.in_default.is c.in_ok-way.ensures)

pub returns : goal.returns
returns g c =
    let w = c.args.style in
    let path = c.args.path.now in
    let base = c.args.base.now in
    let way = c.in-Some.way.items in
    let joined = c.in_ok-joined.joined.items in
    let candidate = subst (λ z. IsCandidateOrNone w path base (option_map (λ v. v.items) z)) c.in-Some.is c.in_ok-way.ensures in
    let join = subst (λ z. IsJoin w base z joined) c.deref.ensures.value c.in_ok-joined.ensures in
    let other = subst (λ z. ¬ (AreOnePlace w z path)) c.deref-2.ensures.value (refuted _ c.in_ok-are_one_place.field-0 c.in_ok-are_one_place.ensures c.if-branch.false) in
    inr (way, (candidate, (joined, (join, other))))
