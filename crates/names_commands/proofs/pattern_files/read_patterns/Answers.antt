use Rattle.std.proofs.Common.{◌+◌, drop, map, subst}
use Rattle.names_commands.specs.Ignoring.{text_of}
use Rattle.names_commands.specs.PatternFiles.{pattern_line}
use Rattle.names_commands.proofs.lemmas.PatternFiles.{AreReadSoFar, all_read, one_read}
use Rattle.names_commands.proofs.pattern_files.read_patterns.Goals as goal

pub loop-name-preserved : goal.loop-name-preserved
loop-name-preserved g c =
    let known = g.F.Files.known c.args.files.now in
    let names = map text_of c.args.names.now in
    let read = c.loop-name.read in
    let patterns = map pattern_line c.loop-name.patterns.items in
    let so_far = subst (λ left. AreReadSoFar known names read left patterns) c.in-Some.ensures.first c.loop-name.invariant in
    let file = c.in_ok-add_patterns.ensures.added in
    one_read known names read c.in-Some.name.now (drop (read + 1) names) patterns (map pattern_line c.add_patterns.new.patterns.items) file.1 file.0 so_far file.2.0 file.2.1.0 file.2.1.1

pub returns : goal.returns
returns g c =
    let known = g.F.Files.known c.args.files.now in
    let names = map text_of c.args.names.now in
    let read = c.loop-name.read in
    let patterns = map pattern_line c.loop-name.patterns.items in
    all_read known names read patterns (subst (λ left. AreReadSoFar known names read left patterns) c.in_default.ensures.first c.loop-name.invariant)
