use Rattle.os_ignore.specs.Ignores.{files_of}
use Rattle.os_ignore.proofs.lemmas.Added.{only}
use Rattle.os_ignore.proofs.ignore.Ignore.new.Goals as goal

pub returns : goal.returns
returns g c = only c.args.file.now (files_of c.empty-ignore.result) (files_of c.add.new.self) c.empty-ignore.ensures c.in_ok-add.ensures.added
