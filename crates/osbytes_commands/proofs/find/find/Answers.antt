use Rattle.std.proofs.Common.{rules}
use Rattle.osbytes_commands.proofs.find.find.Goals as goal

pub returns-clause-output : goal.returns-clause-output
returns-clause-output g c =
    (c.in_ok-string.ensures.formed, (c.find-index.result, (rw c.in_ok-string.ensures.bytes at c.find-index.ensures.bytes, rw c.in_ok-string.ensures.bytes at c.find-index.ensures.units), search rules))
