use Rattle.std.proofs.Common.{subst}
use Rattle.platform_str.proofs.lemmas.Taking.{written}
use Rattle.platform_str.specs.{FormatterSink.formatter_rules, Sinks.Takes}
use Rattle.os_command_line.specs.Fish.{fish_word}
use Rattle.os_command_line.proofs.shell.fish.FishQuotedWriteable.write_to.Goals as goal

pub returns : goal.returns
returns g c =
    let wrote = g.W.Write.write_str_gives in
    written wrote c.write_word.result (subst (λ x. Takes (formatter_rules wrote) c.args.f.now (fish_word x) c.write_word.result c.write_word.new.sink) c.as_bytes.ensures.value c.write_word.ensures)
