use Rattle.std.proofs.Common.{refl, sym, ◌∙◌, subst}
use Rattle.platform_str.proofs.lemmas.Taking.{nothing_taken, one_taken, last_taken, none_taken, rejected}
use Rattle.platform_str.specs.Sinks.{Takes}
use Rattle.os_command_line.proofs.lemmas.PowerShell.{quote_text, other_text}
use Rattle.os_command_line.proofs.shell.powershell.write_character.Goals as goal

pub take_text-requires : goal.take_text-requires
take_text-requires g c =
    let is = quote_text _ _ c.encode_utf8-encoded.ensures.value (sym c.is_single_quote.ensures ∙ c.if-is_single_quote.true) in
    g.S.Sink.rules.room_before _ c.encode_utf8-encoded.result.now c.encode_utf8-encoded.result.now (subst (g.S.Sink.rules.has_room c.args.sink.now) is c.requires)

pub take_text-requires-then-is_single_quote : goal.take_text-requires-then-is_single_quote
take_text-requires-then-is_single_quote g c =
    let is = quote_text _ _ c.encode_utf8-encoded.ensures.value (sym c.is_single_quote.ensures ∙ c.if-is_single_quote.true) in
    g.S.Sink.rules.room_after _ _ _ c.encode_utf8-encoded.result.now c.in_ok-take_text.ensures (subst (g.S.Sink.rules.has_room c.args.sink.now) is c.requires)

pub take_text-requires-else-is_single_quote : goal.take_text-requires-else-is_single_quote
take_text-requires-else-is_single_quote g c =
    let is = other_text _ _ c.encode_utf8-encoded.ensures.value (sym c.is_single_quote.ensures ∙ c.if-is_single_quote.false) in
    subst (g.S.Sink.rules.has_room c.args.sink.now) is c.requires

pub returns-in_err-take_text : goal.returns-in_err-take_text
returns-in_err-take_text g c =
    let is = quote_text _ _ c.encode_utf8-encoded.ensures.value (sym c.is_single_quote.ensures ∙ c.if-is_single_quote.true) in
    rejected g.S.Sink.rules _ _ c.from_residual.result c.from_residual.ensures.1 (none_taken g.S.Sink.rules (nothing_taken g.S.Sink.rules) _ _ c.in_err-take_text.ensures is)

pub returns-in_ok-take_text : goal.returns-in_ok-take_text
returns-in_ok-take_text g c =
    let is = quote_text _ _ c.encode_utf8-encoded.ensures.value (sym c.is_single_quote.ensures ∙ c.if-is_single_quote.true) in
    last_taken g.S.Sink.rules _ _ (one_taken g.S.Sink.rules (nothing_taken g.S.Sink.rules) c.in_ok-take_text.ensures is) refl c.take_text-then-is_single_quote.result c.take_text-then-is_single_quote.ensures

pub returns-else-is_single_quote : goal.returns-else-is_single_quote
returns-else-is_single_quote g c =
    let is = other_text _ _ c.encode_utf8-encoded.ensures.value (sym c.is_single_quote.ensures ∙ c.if-is_single_quote.false) in
    subst (λ x. Takes g.S.Sink.rules c.args.sink.now x c.take_text-else-is_single_quote.result c.take_text-else-is_single_quote.new.self) (sym is) c.take_text-else-is_single_quote.ensures
