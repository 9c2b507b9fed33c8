use Rattle.os_ignore.proofs.lemmas.Links.{up_to_opened}
use Rattle.os_ignore.proofs.directory.files_around.Goals as goal

pub returns : goal.returns
returns g c = up_to_opened c.args.files.now c.args.directory.now c.files_above.result c.last_in.result c.files_above.ensures c.last_in.ensures
