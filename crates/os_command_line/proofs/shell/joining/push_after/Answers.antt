use Rattle.platform_str.specs.Strings.{bytes}
use Rattle.os_command_line.proofs.lemmas.ShellJoining.{none_has_nul, one_joined}
use Rattle.os_command_line.proofs.shell.joining.push_after.Goals as goal

pub loop-name-preserved : goal.loop-name-preserved
loop-name-preserved g c = one_joined _ _ _ _ _ c.loop-name.invariant (bytes c.in-Some.name) _ c.in-Some.ensures.first _ _ c.in_ok-push_space.ensures c.in_ok-push_next.ensures.word c.in_ok-push_next.ensures.no_nul

pub returns-clause-no_nul : goal.returns-clause-no_nul
returns-clause-no_nul g c = none_has_nul _ _ _ _ _ c.loop-name.invariant c.in_default.ensures.first
