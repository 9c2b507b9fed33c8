use Rattle.std.proofs.Common.{rules, map, refl}
use Rattle.path_building.specs.CommonBase.{IsCommonBase, bytes_of}
use Rattle.list_programs.proofs.lemmas.Items.{has_end}
use Rattle.list_programs.specs.Items.{IsCutAt}
use Rattle.list_programs.specs.ListOptions.{byte_of}
use Rattle.paths_commands.specs.Styles.{style_of}
use Rattle.paths_commands.proofs.common.base_of.Goals as goal

pub returns-in-Some-clause-err : goal.returns-in-Some-clause-err
returns-in-Some-clause-err c =
    let end = byte_of c.args.end in
    let before = c.in-Some.field-0.0.now in
    let after = c.in-Some.field-0.1.now in
    let base = c.way_text-base.result.now in
    let is : IsCommonBase (style_of c.args.os) (map bytes_of c.args.paths.now) c.in-Ok.base.now = search rules in
    let cut : IsCutAt end base before after = search rules in
    (refl, (base, ((c.in-Ok.base.now, (is, c.way_text-base.ensures)), has_end end base before after cut)))
