use Rattle.std.proofs.Common.{◌≡◌, ◌++◌, map, false}
use Rattle.path_rules.specs.declared.head.Start.TheVariants.{Dot, Nothing}
use Rattle.path_rules.specs.Views.{item_of}
use Rattle.path_building.specs.Spelled.{after_bytes}
use Rattle.path_building.specs.Relative.{AreWritten}
use Rattle.path_building.proofs.lemmas.Forms.{if_ok}
use Rattle.path_building.proofs.lemmas.Joins.{refuted}
use Rattle.path_building.proofs.lemmas.Places.{names_alone, names_dotted}
use Rattle.path_building.proofs.relative.names_written.Goals as goal

pub returns-then-begins_with_colon : goal.returns-then-begins_with_colon
returns-then-begins_with_colon g c =
    let w = c.args.style in
    let names = map item_of c.args.names.now in
    let none = c.as_slice-none.result.now in
    let sep = c.main_separator-separator.result in
    if_ok (λ z. z.items ≡ none ++ after_bytes sep Dot false names) (λ z. AreWritten w names z.items) c.written.result
    (λ z e. names_dotted w names none z.items sep c.as_slice-none.ensures c.main_separator-separator.ensures (c.begins_with_colon.ensures.0 c.if-begins_with_colon.true) e) c.written.ensures

pub returns : goal.returns
returns g c =
    let w = c.args.style in
    let names = map item_of c.args.names.now in
    let none = c.as_slice-none.result.now in
    let sep = c.main_separator-separator.result in
    if_ok (λ z. z.items ≡ none ++ after_bytes sep Nothing false names) (λ z. AreWritten w names z.items) c.written-2.result
    (λ z e. names_alone w names none z.items sep c.as_slice-none.ensures c.main_separator-separator.ensures c.requires (refuted _ c.begins_with_colon.result c.begins_with_colon.ensures c.if-begins_with_colon.false) e) c.written-2.ensures
