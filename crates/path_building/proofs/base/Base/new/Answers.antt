use Rattle.std.proofs.Common.{sym, subst}
use Rattle.path_building.specs.Base.{HasNoNul}
use Rattle.path_building.proofs.lemmas.Joins.{refuted}
use Rattle.path_building.proofs.base.Base.new.Goals as goal

pub invariant_of-result : goal.invariant_of-result
invariant_of-result c =
    record { complete = ∣ (subst HasNoNul (sym c.new-parsed.ensures.whole) c.in_default.ensures, (refuted _ c.is_open.result c.is_open.ensures c.if-is_open.false, refuted _ c.has_reserved_name.result c.has_reserved_name.ensures c.if-has_reserved_name.false)) ∣₁ }
