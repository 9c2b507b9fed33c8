use Rattle.std.proofs.Common.{rules}
use Rattle.osbytes_commands.proofs.split.split.Goals as goal

pub returns-clause-output : goal.returns-clause-output
returns-clause-output g c =
    (c.in_ok-string.ensures.formed, (c.split-pieces.result, (rw c.in_ok-string.ensures.bytes at c.split-pieces.ensures.bytes, rw c.in_ok-string.ensures.bytes at c.split-pieces.ensures.units), search rules))
