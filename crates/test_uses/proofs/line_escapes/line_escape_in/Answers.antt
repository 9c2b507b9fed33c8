use Rattle.std.proofs.Common.{subst}
use Rattle.wtf8_core.specs.Truncated.{IsTruncated}
use Rattle.test_uses.proofs.line_escapes.line_escape_in.Goals as goal

pub returns : goal.returns
returns g c =
    let made = c.write_escape_line.ensures in
    subst (λ text. IsTruncated text c.args.buffer.now c.write_escape_line.new.buffer c.write_escape_line.result) (c.line_escapes.ensures.one_escape _ _ _ made.1.0 c.requires.known) made.1.1
