use Rattle.std.proofs.Common.{◌≡◌, ◌++◌, false, map, sym, ap, ◌∙◌, subst}
use Rattle.path_rules.specs.StyleRules.{main_separator}
use Rattle.path_rules.specs.Views.{item_of}
use Rattle.path_rules.specs.Heads.{prefix_items, start_items}
use Rattle.path_building.specs.Written.{IsPathOf}
use Rattle.path_building.specs.Spelled.{after_bytes}
use Rattle.path_building.specs.Cleaned.{one_spelling, spelled}
use Rattle.path_rules.proofs.lemmas.Fields.{empty_from}
use Rattle.path_building.proofs.lemmas.Forms.{if_ok, some_bytes}
use Rattle.path_building.proofs.lemmas.CleanPrefixes.{spelled_path_of, bare_spelled}
use Rattle.path_building.proofs.cleaning.spelled_as.Goals as goal

pub returns-then-is_empty : goal.returns-then-is_empty
returns-then-is_empty g c =
    let head = c.args.head in
    let rest = start_items c.args.start ++ map item_of c.args.names.now in
    let none = empty_from head.prefix.now c.is_empty.result c.if-is_empty.true c.is_empty.ensures in
    if_ok (λ z. IsPathOf c.args.style (prefix_items head.prefix.now ++ rest) z.items) (λ z. IsPathOf c.args.style (map spelled (prefix_items head.prefix.now) ++ rest) z.items) c.written_as.result
    (λ z a. subst (λ s. IsPathOf c.args.style (s ++ rest) z.items) (sym (bare_spelled head.prefix.now none)) a) c.written_as.ensures

pub returns : goal.returns
returns g c =
    let w = c.args.style in
    let head = c.args.head in
    let names = map item_of c.args.names.now in
    let some = some_bytes head.prefix.now c.is_empty.result c.is_empty.ensures c.if-is_empty.false in
    let all : c.push_after.new.path.items ≡ one_spelling head.prefix.now ++ after_bytes (main_separator w) c.args.start false names =
    c.in_ok-push_after.ensures ∙ ap (λ z. c.push_spelled.new.path.items ++ after_bytes z c.args.start false names) c.main_separator.ensures
    ∙ ap (λ z. z ++ after_bytes (main_separator w) c.args.start false names) (c.in_ok-push_spelled.ensures ∙ ap (λ z. z ++ one_spelling head.prefix.now) c.in_ok-clean.ensures.items) in
    subst (IsPathOf w (map spelled (prefix_items head.prefix.now) ++ (start_items c.args.start ++ names))) (sym all)
    (spelled_path_of w c.args.path.now head c.args.start names c.requires.parts some c.requires.other c.requires.may_start c.requires.spelled)
