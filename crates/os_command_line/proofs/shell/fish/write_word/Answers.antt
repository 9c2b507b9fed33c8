use Rattle.std.proofs.Common.{sym, subst, ◌∙◌}
use Rattle.platform_str.specs.Sinks.{Takes}
use Rattle.os_command_line.proofs.lemmas.Fish.{bare_word, quoted_name}
use Rattle.os_command_line.proofs.shell.fish.write_word.Goals as goal

pub take-requires : goal.take-requires
take-requires g c =
    let is = bare_word c.args.name.now (sym c.is_plain_name.ensures ∙ c.if-is_plain_name.true) in
    record { accepted = c.requires.accepted; room = subst (g.S.Sink.rules.has_room c.args.sink.now) is c.requires.room }

pub write_in_quotes-requires : goal.write_in_quotes-requires
write_in_quotes-requires g c =
    let is = quoted_name c.args.name.now (sym c.is_plain_name.ensures ∙ c.if-is_plain_name.false) in
    record { accepted = c.requires.accepted; room = subst (g.S.Sink.rules.has_room c.args.sink.now) is c.requires.room }

pub returns-then-is_plain_name : goal.returns-then-is_plain_name
returns-then-is_plain_name g c =
    let is = bare_word c.args.name.now (sym c.is_plain_name.ensures ∙ c.if-is_plain_name.true) in
    subst (λ x. Takes g.S.Sink.rules c.args.sink.now x c.take.result c.take.new.self) (sym is) c.take.ensures

pub returns-else-is_plain_name : goal.returns-else-is_plain_name
returns-else-is_plain_name g c =
    let is = quoted_name c.args.name.now (sym c.is_plain_name.ensures ∙ c.if-is_plain_name.false) in
    subst (λ x. Takes g.S.Sink.rules c.args.sink.now x c.write_in_quotes.result c.write_in_quotes.new.sink) (sym is) c.write_in_quotes.ensures
