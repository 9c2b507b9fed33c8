use Rattle.std.proofs.Common.{subst}
use Rattle.os_ignore.specs.Ignores.{IsAddedTo, files_of}
use Rattle.names_commands.specs.Ignoring.{IsFileIn}
use Rattle.names_commands.proofs.lemmas.Ignored.{name_text}
use Rattle.names_commands.proofs.ignoring.add_file.Goals as goal

pub read_file-requires : goal.read_file-requires
read_file-requires g c = name_text c.as_bytes.result.now c.file_in.result.0.now c.file_in.result.1.now c.file_in.ensures c.as_bytes.ensures.utf8

pub returns-clause-added : goal.returns-clause-added
returns-clause-added g c =
    let directory = c.file_in.result.0.now in
    let name = c.file_in.result.1.now in
    let stated = subst (λ v. IsFileIn v directory name) c.as_bytes.ensures.value c.file_in.ensures in
    let added = subst (λ b. IsAddedTo c.args.options.case_insensitive directory b (files_of c.args.ignore.now) (files_of c.add_with.new.self)) c.deref.ensures.value c.in_ok-add_with.ensures.added in
    (directory, name, c.in_ok-bytes.bytes.items, (stated, (c.in_ok-bytes.ensures.bytes, added)))
