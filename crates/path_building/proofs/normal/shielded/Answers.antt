use Rattle.std.proofs.Common.{◌≡◌, ◌++◌, map, inr, refl, sym, subst, ◌∙◌, true, false}
use Rattle.path_rules.specs.Heads.{start_items}
use Rattle.path_rules.specs.Views.{item_of}
use Rattle.path_building.specs.Normalized.{IsShielded}
use Rattle.path_building.proofs.normal.shielded.Goals as goal

pub returns-else-begins_with_colon-clause-shield : goal.returns-else-begins_with_colon-clause-shield
returns-else-begins_with_colon-clause-shield c =
    let names = map item_of c.args.names.now in
    subst (λ z. IsShielded c.args.style (start_items z ++ names) names) (sym c.in-Nothing.is) (inr (λ h. let never : true ≡ false = sym (c.begins_with_colon.ensures.1 h) ∙ c.if-begins_with_colon.false in cc, refl))
