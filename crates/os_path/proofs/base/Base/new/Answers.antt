use Rattle.std.proofs.Common.{◌≡◌, ◌∙◌, sym, subst}
use Rattle.platform_str.specs.Strings.{path_bytes}
use Rattle.path_building.specs.Faults.{IsBaseFault}
use Rattle.os_path.proofs.base.Base.new.Goals as goal

pub invariant_of-result : goal.invariant_of-result
invariant_of-result g c =
    record {
      formed = subst g.E.Platform.well_formed (sym c.in-Ok.ensures.path) c.as_encoded_bytes.ensures.formed;
      style_is = ∣ c.in-Ok.ensures.style ∙ c.style.ensures ∣₁;
    }

pub returns-in-Err-clause-err : goal.returns-in-Err-clause-err
returns-in-Err-clause-err g c =
    let error = c.in-Err.error in
    let path : c.as_encoded_bytes.result.now ≡ path_bytes c.args.path = c.as_encoded_bytes.ensures.value ∙ c.as_os_str.ensures in
    subst (λ s. IsBaseFault g.E.PathStyle.follows s error) path
    (subst (λ w. IsBaseFault w c.as_encoded_bytes.result.now error) c.style.ensures c.in-Err.ensures.err)
