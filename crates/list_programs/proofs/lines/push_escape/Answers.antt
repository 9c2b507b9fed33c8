use Rattle.std.proofs.Common.{◌++◌, ◌∷◌, [], ap, ◌∙◌, subst}
use Rattle.std.proofs.lemmas.Str.{IsUtf8-nil}
use Rattle.std.proofs.lemmas.Result.{on_ok_weaker}
use Rattle.os_str_bytes.specs.Strings.{bytes}
use Rattle.list_programs.proofs.lemmas.Lines.{IsPlainLine, own_line}
use Rattle.list_programs.proofs.lines.push_escape.Goals as goal

pub returns-then-is_plain-clause-escape : goal.returns-then-is_plain-clause-escape
returns-then-is_plain-clause-escape g c =
    let P = g.E.Platform in
    let name = bytes c.args.string in
    let plain = subst IsPlainLine c.as_encoded_bytes.ensures.value (c.is_plain.ensures c.if-is_plain.true) in
    let line = own_line P.well_formed P.units P.part_units g.met.E.Platform.parts (g.met.E.Platform.laws.text [] IsUtf8-nil) name plain in
    on_ok_weaker c.push_ended.result
    (λ e. (name, (line, e ∙ ap (λ x. c.args.output.now.items ++ (x ++ c.args.end ∷ [])) c.as_encoded_bytes-then-is_plain.ensures.value)))
    c.push_ended.ensures.ok
