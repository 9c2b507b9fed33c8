use Rattle.wtf8_core.proofs.{Common.◌++◌, Common.arith, Common.common_steps, Common.nat_tests, lemmas.table.Pieces.only_ends, lemmas.table.Pieces.open_progress}
use Rattle.wtf8_core.proofs.checker.Checker.feed.Goals as goal

pub returns-in-Ok-clause-describes : goal.returns-in-Ok-clause-describes
returns-in-Ok-clause-describes c b h = grind (arith, nat_tests, common_steps, open_progress, c.in_default.is, c.in-Ok.ensures, c.self.view_is)

pub returns-in-Ok-clause-answer : goal.returns-in-Ok-clause-answer
returns-in-Ok-clause-answer c b h f g =
    only_ends c.in-Ok.state c.in-Ok.bits (b ++ c.args.piece.now) (c.in-Ok.ensures b (open_progress c.self.inside.state c.self.inside.bits c.self.inside.fault c.args.self.now b c.self.view_is c.in_default.is h)) f g

pub returns-in-Err-clause-describes : goal.returns-in-Err-clause-describes
returns-in-Err-clause-describes c b h =
    c.in-Err.ensures b (open_progress c.self.inside.state c.self.inside.bits c.self.inside.fault c.args.self.now b c.self.view_is c.in_default.is h)

pub returns-in-Err-clause-answer : goal.returns-in-Err-clause-answer
returns-in-Err-clause-answer c b h =
    c.in-Err.ensures b (open_progress c.self.inside.state c.self.inside.bits c.self.inside.fault c.args.self.now b c.self.view_is c.in_default.is h)
