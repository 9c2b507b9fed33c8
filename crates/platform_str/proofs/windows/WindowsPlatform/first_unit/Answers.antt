use Rattle.platform_str.proofs.{Common.◌∷◌, Common.sym, Common.ap, Common.◌∙◌, lemmas.FirstUnits.first_is_unit, lemmas.ToWide.begins_with}
use Rattle.platform_str.specs.ToWide.{units_after_first}
use Rattle.platform_str.proofs.windows.WindowsPlatform.first_unit.Goals as goal

pub returns : goal.returns
returns c =
    let r = c.requires in
    first_is_unit r.formed r.some r.uncovered (begins_with c.args.bytes.now r.formed r.some ∙ ap (λ u. u ∷ units_after_first c.args.bytes.now) (sym c.first_unit.ensures))
