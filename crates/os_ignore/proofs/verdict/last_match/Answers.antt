use Rattle.std.proofs.Common.{sym, subst}
use Rattle.os_ignore.specs.Verdicts.{IsLastMatch}
use Rattle.os_ignore.proofs.verdict.last_match.Goals as goal

pub returns-in-Some : goal.returns-in-Some
returns-in-Some g c =
    subst (IsLastMatch c.args.path.now c.args.is_dir c.args.lines.now) (sym c.index-lines-at.is)
    (c.in-Some.ensures.1 c.index-lines-at.result)
