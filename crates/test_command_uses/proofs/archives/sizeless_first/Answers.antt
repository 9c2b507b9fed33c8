use Rattle.std.proofs.Common.{Some}
use Rattle.program_frame.specs.Marked.{marked_inner}
use Rattle.test_command_uses.proofs.UnreadArchives.{sizeless_rejected}
use Rattle.test_command_uses.proofs.archives.sizeless_first.Goals as goal

pub returns : goal.returns
returns g c = sizeless_rejected g.E.Platform c.args.list c.args.archive.now (Some (marked_inner c.run_tar.new.reader).now) _ _ _ (rw c.new.ensures.inner at c.run_tar.ensures.run) c.sizes.ensures.digit c.requires.sizeless
