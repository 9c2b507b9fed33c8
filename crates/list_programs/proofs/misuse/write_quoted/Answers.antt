use Rattle.std.proofs.Common.{true, refl, ap, ◌∙◌}
use Rattle.std.proofs.Output.{has_written_styled_append, has_written_styled_of_eq}
use Rattle.os_args.proofs.lemmas.OneEscape.{shown_escape}
use Rattle.os_args.specs.ErrorText.{shown}
use Rattle.os_str_bytes.specs.Strings.{bytes}
use Rattle.os_str_bytes.specs.WasmPlatform.TheImpl as wasm
use Rattle.list_programs.proofs.misuse.write_quoted.Goals as goal

pub returns : goal.returns
returns g c = λ flush ok.
    let units = wasm.ghosts.units in
    let escape = shown_escape units (bytes c.new.result) _ c.escaped_line.ensures ∙ ap (shown units) c.new.ensures in
    let head = c.in_ok-write_str.ensures.styled flush (refl {a = true}) in
    let text = has_written_styled_of_eq _ _ _ _ _ escape (c.in_ok-write_to.ensures head.flush (refl {a = true})) in
    has_written_styled_append _ _ _ _ _ _ head (has_written_styled_append _ _ _ _ _ _ text (c.write_str-2.ensures.styled text.flush ok))
