use Rattle.platform_str.proofs.{Common.sym, Common.subst, Common.HasUnits, Common.ok_values, Common.units_of-is, lemmas.WideLemmas.ok_units}
use Rattle.platform_str.proofs.wide.OsStr+Windows.encode_wide.Goals as goal

pub invariant_of-result : goal.invariant_of-result
invariant_of-result c = (ok_units c.as_encoded_bytes.ensures.formed c.encode_wide.ensures).all_ok

pub returns : goal.returns
returns c =
    let has = subst (λ b. HasUnits b (ok_values c.encode_wide.result)) c.as_encoded_bytes.ensures.value (ok_units c.as_encoded_bytes.ensures.formed c.encode_wide.ensures).has in
    record { has_units = has; units = sym (units_of-is _ _ has) }
