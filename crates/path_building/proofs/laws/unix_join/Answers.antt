use Rattle.std.proofs.Common.{◌++◌, refl, sym, ap, ◌∙◌}
use Rattle.path_rules.specs.declared.rules.Rules.TheVariants as rules
use Rattle.path_rules.specs.Components.{plain_components}
use Rattle.path_rules.proofs.lemmas.Starts.{join_items}
use Rattle.path_building.proofs.laws.unix_join.Goals as goal

pub returns : goal.returns
returns c = λ s t before after h e f rel.
    ap (λ x. x ++ after) e ∙ ap (λ x. plain_components rules.Slash s ++ x) f ∙ sym (join_items rules.Slash 0x2F refl s t h rel)
