use Rattle.std.proofs.Common.{◌≡◌, Some, sym, ap, ◌∙◌}
use Rattle.path_rules.specs.Component.{Normal}
use Rattle.path_rules.specs.Views.{item_of}
use Rattle.path_building.proofs.lemmas.FileNames.{no_body_name, no_name, name_end, end_inside, body_short}
use Rattle.path_building.proofs.file_names.last_name.Goals as goal

pub returns-in_default : goal.returns-in_default
returns-in_default c = no_body_name c.args.style c.args.path.now c.head_of-head.result c.head_of-head.ensures.items c.in_default.ensures

pub overflow_sub-result : goal.overflow_sub-result
overflow_sub-result c = body_short c.args.path.now c.head_of-head.result c.in-Some.left.now c.in-Some.part.now c.in-Some.ensures c.args.style c.head_of-head.ensures.parts

pub returns-in_default-component_of : goal.returns-in_default-component_of
returns-in_default-component_of c =
    no_name c.args.path.now c.head_of-head.result c.in-Some.left.now c.in-Some.part.now c.in-Some.ensures c.args.style c.head_of-head.ensures.parts
    (λ name e. let never = c.in_default-component_of.ensures.names ∙ e in cc)

pub returns-in_default-name : goal.returns-in_default-name
returns-in_default-name c =
    no_name c.args.path.now c.head_of-head.result c.in-Some.left.now c.in-Some.part.now c.in-Some.ensures c.args.style c.head_of-head.ensures.parts
    (λ name e. let same : Some (item_of c.in-Some-component_of.item) ≡ Some (Normal name) = c.in-Some-component_of.ensures.names ∙ e in c.in_default-name.ensures name (cc))

pub returns : goal.returns
returns c = (
  end_inside c.args.path.now c.head_of-head.result c.in-Some.left.now c.in-Some.part.now c.in-Some.ensures c.args.style c.head_of-head.ensures.parts,
  name_end c.args.path.now c.head_of-head.result c.in-Some.left.now c.in-Some.part.now c.in-Some.ensures c.args.style c.head_of-head.ensures.parts c.in-Some-name.name.now
      (sym c.in-Some-component_of.ensures.names ∙ ap Some c.in-Some-name.ensures),
)
