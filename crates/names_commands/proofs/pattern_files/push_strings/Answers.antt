use Rattle.std.proofs.Common.{map, ap}
use Rattle.os_str_bytes.specs.Strings.{bytes}
use Rattle.names_commands.specs.PatternFiles.{pattern_line}
use Rattle.names_commands.proofs.lemmas.PatternFiles.{one_string}
use Rattle.names_commands.proofs.pattern_files.push_strings.Goals as goal

pub loop-pattern-preserved : goal.loop-pattern-preserved
loop-pattern-preserved g c =
    one_string g.E.Platform (map pattern_line c.args.patterns.now) (map bytes c.args.strings.now.items) (pattern_line c.in-Some.pattern.now) (map pattern_line c.in-Some.rest.now) (map pattern_line c.loop-pattern.left.now) (bytes c.in_ok-string.string) (map bytes c.loop-pattern.strings.items) (map bytes c.push_string.new.strings.items) c.loop-pattern.invariant (ap (map pattern_line) c.in-Some.ensures.cases.0) c.in_ok-string.ensures.string c.in_ok-string.ensures.formed c.in_ok-push_string.ensures
