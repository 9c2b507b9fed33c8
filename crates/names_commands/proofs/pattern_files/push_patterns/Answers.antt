use Rattle.std.proofs.Common.{map}
use Rattle.std.proofs.lemmas.Result.{on_ok_weaker}
use Rattle.names_commands.specs.PatternFiles.{pattern_line}
use Rattle.names_commands.proofs.lemmas.PatternFiles.{all_appended, one_appended}
use Rattle.names_commands.proofs.pattern_files.push_patterns.Goals as goal

pub loop-first-preserved : goal.loop-first-preserved
loop-first-preserved g c =
    one_appended c.args.file c.args.end c.args.content.now (map pattern_line c.args.patterns.now.items) c.loop-first.line c.loop-first.left.now c.in-Some.first.now c.in-Some.rest.now c.text_of_line.result.now (map pattern_line c.loop-first.patterns.items) (map pattern_line c.push_line.new.patterns.items) c.loop-first.invariant c.in-Some.ensures c.text_of_line.ensures c.in_ok-push_line.ensures

pub returns : goal.returns
returns g c =
    on_ok_weaker c.push_line-2.result
    (λ pushed. all_appended c.args.file c.args.end c.args.content.now (map pattern_line c.args.patterns.now.items) c.loop-first.line c.loop-first.left.now c.text_of_line-2.result.now (map pattern_line c.loop-first.patterns.items) (map pattern_line c.push_line-2.new.patterns.items) c.loop-first.invariant c.in_default.ensures c.text_of_line-2.ensures pushed)
    c.push_line-2.ensures
