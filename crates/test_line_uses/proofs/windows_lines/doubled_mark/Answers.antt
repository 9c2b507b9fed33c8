use Rattle.std.proofs.Common.{[], ◌∷◌, ap, sym, subst}
use Rattle.std.specs.Prelude.{codes}
use Rattle.os_command_line.specs.Windows.{IsCommandLine}
use Rattle.test_line_uses.proofs.LinesRead.{doubled_line}
use Rattle.test_line_uses.proofs.windows_lines.doubled_mark.Goals as goal

pub returns : goal.returns
returns c is = ap (λ read. read.1) (c.lines.ensures.one_line _ c.new.result _ _ c.new.ensures (subst (λ line. IsCommandLine line (codes "E") (codes "a\" b" ∷ [])) (sym is) doubled_line))
