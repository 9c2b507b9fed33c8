use Rattle.std.proofs.Common.{sym, subst, true, inl, inr}
use Rattle.wtf8_core.specs.UnitsOf.{units_of}
use Rattle.platform_str.specs.Strings.{bytes}
use Rattle.os_command_line.specs.WindowsBatch.{EndsInDots, IsDropped, NeedsCmd}
use Rattle.test_line_uses.proofs.LinesRead.{capitals, before_full_stop, before_dot, no_batch_file, no_dots, is_false}
use Rattle.test_line_uses.proofs.windows_lines.batch_files.Goals as goal

pub returns-clause-capitals : goal.returns-clause-capitals
returns-clause-capitals c is = c.needs_cmd.ensures.1 (subst NeedsCmd (sym is) capitals)

pub returns-clause-full_stop : goal.returns-clause-full_stop
returns-clause-full_stop c is = c.needs_cmd.ensures.1 (subst NeedsCmd (sym is) before_full_stop)

pub returns-clause-dot : goal.returns-clause-dot
returns-clause-dot c is = c.needs_cmd.ensures.1 (subst NeedsCmd (sym is) before_dot)

pub returns-clause-program : goal.returns-clause-program
returns-clause-program c is = is_false c.needs_cmd.result (λ yes. elim (c.needs_cmd.ensures.0 yes) [
  | inl batch ↦ no_batch_file _ _ batch is
  | inr dots ↦ no_dots (units_of (bytes c.args.program)) (subst (EndsInDots (IsDropped (units_of (bytes c.args.program))) true) is dots)
])
