use Rattle.os_command_line.proofs.lemmas.Lists.{ascii_text}
use Rattle.os_command_line.proofs.shell.write_word.take_ascii.Goals as goal

pub take-requires : goal.take-requires
take-requires g c = record { accepted = g.S.Sink.pieces.text _ (ascii_text _ c.requires.ascii); room = c.requires.room }
