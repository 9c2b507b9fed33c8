use Rattle.std.proofs.Common.{◌≡◌, ◌++◌, map, sym, ap, ◌∙◌, subst}
use Rattle.path_rules.specs.Views.{item_of}
use Rattle.path_rules.specs.Heads.{prefix_items, start_items}
use Rattle.path_building.specs.Written.{IsPathOf}
use Rattle.path_building.specs.Spelled.{after_bytes}
use Rattle.path_rules.specs.StyleRules.{main_separator}
use Rattle.path_building.proofs.lemmas.Forms.{if_ok}
use Rattle.path_building.proofs.lemmas.Objects.{path_of}
use Rattle.path_building.proofs.normal.written_as.Goals as goal

pub returns : goal.returns
returns g c =
    let w = c.args.style in
    let head = c.args.head in
    let names = map item_of c.args.names.now in
    let doubled = c.has_doubled_root-doubled.result in
    let before = c.before_start-before.result.now in
    let all = prefix_items head.prefix.now ++ (start_items c.args.start ++ names) in
    let is = path_of w c.args.path.now head c.args.start doubled names before c.requires.spelled c.requires.none c.requires.may_start c.has_doubled_root-doubled.ensures c.requires.parts c.before_start-before.ensures.kept c.before_start-before.ensures.apart in
    let same : before ++ after_bytes c.main_separator.result c.args.start doubled names ≡ before ++ after_bytes (main_separator w) c.args.start doubled names = ap (λ z. before ++ after_bytes z c.args.start doubled names) c.main_separator.ensures in
    if_ok (λ z. z.items ≡ before ++ after_bytes c.main_separator.result c.args.start doubled names) (λ z. IsPathOf w all z.items) c.written.result (λ z e. subst (λ s. IsPathOf w all s) (sym (e ∙ same)) is) c.written.ensures
