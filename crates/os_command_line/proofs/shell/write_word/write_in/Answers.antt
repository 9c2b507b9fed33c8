use Rattle.std.proofs.Common.{sym, ap, ◌∙◌, subst}
use Rattle.platform_str.specs.{Sinks.Takes, Strings.bytes}
use Rattle.os_command_line.specs.ShellSteps.{form_text, AcceptsForm}
use Rattle.os_command_line.specs.ShellWriting.{single_quoted}
use Rattle.os_command_line.proofs.shell.write_word.write_in.Goals as goal

pub take-requires : goal.take-requires
take-requires g c =
    let name = bytes c.args.name in
    let same = sym c.as_encoded_bytes.ensures.value in
    record {
      accepted = subst g.S.Sink.pieces.accepts same (subst (λ f. AcceptsForm g.S.Sink.pieces.accepts f name) c.in-Bare.is c.requires.accepted);
      room = subst (g.S.Sink.rules.has_room c.args.sink.now) same (subst (λ f. g.S.Sink.rules.has_room c.args.sink.now (form_text f name)) c.in-Bare.is c.requires.room);
    }

pub write_single-requires : goal.write_single-requires
write_single-requires g c =
    let name = bytes c.args.name in
    let same = sym c.as_encoded_bytes-in-Single.ensures.value in
    record {
      accepted = subst g.S.Sink.pieces.accepts same (subst (λ f. AcceptsForm g.S.Sink.pieces.accepts f name) c.in-Single.is c.requires.accepted);
      room = subst (λ x. g.S.Sink.rules.has_room c.args.sink.now (single_quoted x)) same (subst (λ f. g.S.Sink.rules.has_room c.args.sink.now (form_text f name)) c.in-Single.is c.requires.room);
    }

pub write_dollar-requires : goal.write_dollar-requires
write_dollar-requires g c = subst (λ f. g.S.Sink.rules.has_room c.args.sink.now (form_text f (bytes c.args.name))) c.in-Dollar.is c.requires.room

pub returns-in-Bare : goal.returns-in-Bare
returns-in-Bare g c = subst (λ x. Takes g.S.Sink.rules c.args.sink.now x c.take.result c.take.new.self) (c.as_encoded_bytes.ensures.value ∙ ap (λ f. form_text f (bytes c.args.name)) (sym c.in-Bare.is)) c.take.ensures

pub returns-in-Single : goal.returns-in-Single
returns-in-Single g c = subst (λ x. Takes g.S.Sink.rules c.args.sink.now x c.write_single.result c.write_single.new.sink) (ap single_quoted c.as_encoded_bytes-in-Single.ensures.value ∙ ap (λ f. form_text f (bytes c.args.name)) (sym c.in-Single.is)) c.write_single.ensures

pub returns-in-Dollar : goal.returns-in-Dollar
returns-in-Dollar g c = subst (λ x. Takes g.S.Sink.rules c.args.sink.now x c.write_dollar.result c.write_dollar.new.sink) (ap (λ f. form_text f (bytes c.args.name)) (sym c.in-Dollar.is)) c.write_dollar.ensures
