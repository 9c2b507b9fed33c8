use Rattle.std.proofs.Common.{map, subst}
use Rattle.os_ignore.specs.Ignores.{files_of}
use Rattle.names_commands.specs.Ignoring.{text_of}
use Rattle.names_commands.proofs.lemmas.Ignored.{AreReadSoFar, one_read}
use Rattle.names_commands.proofs.ignoring.add_files.Goals as goal

pub loop-value-preserved : goal.loop-value-preserved
loop-value-preserved g c =
    let known = g.F.Files.known c.args.files.now in
    let values = map text_of c.args.values.now in
    let so_far = subst (λ left. AreReadSoFar c.args.options.case_insensitive known values left c.loop-value.added (files_of c.loop-value.ignore)) c.in-Some.ensures.first c.loop-value.invariant in
    let file = c.in_ok-add_file.ensures.added in
    one_read c.args.options.case_insensitive known values _ c.loop-value.added (record { value = c.in-Some.value.now; directory = file.0; name = file.1; content = file.2 }) (files_of c.loop-value.ignore) (files_of c.add_file.new.ignore) so_far (file.3.0, file.3.1.0) file.3.1.1
