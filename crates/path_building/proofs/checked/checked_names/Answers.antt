use Rattle.std.proofs.Common.{◌++◌, map}
use Rattle.path_rules.specs.StyleRules.{rules_of_style}
use Rattle.path_rules.specs.Component.{components_in}
use Rattle.path_rules.specs.Heads.{start_items}
use Rattle.path_rules.specs.Views.{item_of}
use Rattle.path_building.specs.Spelled.{AreSpelled}
use Rattle.path_building.specs.Checked.{NameNoStream, AreCheckedNames}
use Rattle.path_building.specs.Walked.{LeadTo, IsWalkFault}
use Rattle.path_building.specs.Faults.{IsNameFault}
use Rattle.path_building.proofs.lemmas.Forms.{if_ok}
use Rattle.path_building.proofs.lemmas.Checks.{relative_to, names_checked, names_spelled_so, names_no_stream, fault_found, if_err}
use Rattle.path_building.proofs.checked.checked_names.Goals as goal

pub returns-clause-err : goal.returns-clause-err
returns-clause-err g c =
    let w = c.args.style in
    let path = c.args.path.now in
    let head = c.head_of-head in
    let items = start_items head.result.start ++ components_in head.result.rules head.result.body.now in
    let relative = relative_to w path c.is_prefixed.result c.is_prefixed.ensures c.if-is_prefixed.false c.rules.result c.rules.ensures c.begins_with_separator.result c.begins_with_separator.ensures c.if-begins_with_separator.false in
    if_err (IsWalkFault w items) (IsNameFault w path) c.fit_names.result (fault_found w path head.result head.ensures.items head.ensures.parts relative c.in_default.ensures) c.fit_names.ensures.err

pub returns-clause-ok : goal.returns-clause-ok
returns-clause-ok g c =
    let w = c.args.style in
    let path = c.args.path.now in
    let head = c.head_of-head in
    let items = start_items head.result.start ++ components_in head.result.rules head.result.body.now in
    let relative = relative_to w path c.is_prefixed.result c.is_prefixed.ensures c.if-is_prefixed.false c.rules.result c.rules.ensures c.begins_with_separator.result c.begins_with_separator.ensures c.if-begins_with_separator.false in
    if_ok (λ z. LeadTo w items (map item_of z.items)) (λ z. AreCheckedNames w path (map item_of z.items)) c.fit_names.result (λ z t. names_checked w path head.result head.ensures.items head.ensures.parts relative (map item_of z.items) t c.in_default.ensures) c.fit_names.ensures.ok

pub returns-clause-spelled : goal.returns-clause-spelled
returns-clause-spelled g c =
    let w = c.args.style in
    let path = c.args.path.now in
    let head = c.head_of-head in
    let items = start_items head.result.start ++ components_in head.result.rules head.result.body.now in
    let relative = relative_to w path c.is_prefixed.result c.is_prefixed.ensures c.if-is_prefixed.false c.rules.result c.rules.ensures c.begins_with_separator.result c.begins_with_separator.ensures c.if-begins_with_separator.false in
    if_ok (λ z. LeadTo w items (map item_of z.items)) (λ z. AreSpelled (rules_of_style w) (map item_of z.items)) c.fit_names.result (λ z t. names_spelled_so w path head.result head.ensures.items head.ensures.parts relative (map item_of z.items) t) c.fit_names.ensures.ok

pub returns-clause-streams : goal.returns-clause-streams
returns-clause-streams g c =
    let w = c.args.style in
    let path = c.args.path.now in
    let head = c.head_of-head in
    let items = start_items head.result.start ++ components_in head.result.rules head.result.body.now in
    let relative = relative_to w path c.is_prefixed.result c.is_prefixed.ensures c.if-is_prefixed.false c.rules.result c.rules.ensures c.begins_with_separator.result c.begins_with_separator.ensures c.if-begins_with_separator.false in
    if_ok (λ z. LeadTo w items (map item_of z.items)) (λ z. NameNoStream w (map item_of z.items)) c.fit_names.result (λ z t. names_no_stream w path head.result head.ensures.items head.ensures.parts relative (map item_of z.items) t) c.fit_names.ensures.ok
