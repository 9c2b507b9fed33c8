use Rattle.std.proofs.Common.{rules, ◌≡◌, ◌∙◌, ap, inl, subst}
use Rattle.std.specs.Prelude.{string_bytes}
use Rattle.std.specs.Fmt.Cut.{cut_to}
use Rattle.os_quote.specs.Escape.{IsLineEscape}
use Rattle.os_path.specs.Views.{os_item_of}
use Rattle.paths_commands.proofs.components.shown_at.Goals as goal

pub returns-in_ok-line-in-Some : goal.returns-in_ok-line-in-Some
returns-in_ok-line-in-Some g c =
    let line = string_bytes c.in_ok-line-in-Some.line in
    let same : c.as_str.result.now ≡ line = search rules in
    inl (os_item_of c.in-Some.component, (c.in-Some.ensures, (line, (subst (λ t. IsLineEscape g.E.Platform.units t line) c.component_text.ensures c.in_ok-line-in-Some.ensures, c.shown.ensures ∙ ap (λ t. cut_to 200 t) same))))
