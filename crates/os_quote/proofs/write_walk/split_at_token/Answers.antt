use Rattle.os_quote.proofs.write_walk.split_at_token.Goals as goal

pub returns-in-Line : goal.returns-in-Line
returns-in-Line c = rw c.in-Line.is c.split_hidden.ensures
