use Rattle.std.proofs.Common.{◌∷◌, ◌++◌, [], ap}
use Rattle.platform_str.proofs.lemmas.Pushing.{push_same}
use Rattle.os_command_line.specs.WindowsViews.{argument_units}
use Rattle.osbytes_c.proofs.lemmas.Lines.{name_written, one_more_argument, all_arguments}
use Rattle.osbytes_c.proofs.lines.windows_arguments.write_arguments.Goals as goal

pub loop-argument-init : goal.loop-argument-init
loop-argument-init c = name_written c.args.arguments.0 c.args.arguments.1 _ c.args.out.now _ _ (ap (λ z. z.1) c.into_iter-argument-iterator.ensures.into_iter_gives) c.requires (push_same (ap (λ z. z ++ 0 ∷ []) c.program-name.ensures) c.push_argument-count.ensures)

pub loop-argument-preserved : goal.loop-argument-preserved
loop-argument-preserved c = one_more_argument _ _ _ _ _ _ c.loop-argument.invariant (argument_units c.in-Some.argument) _ c.in-Some.ensures.steps _ _ c.push_argument-count-in-loop-argument.ensures

pub returns : goal.returns
returns c = all_arguments _ _ _ _ _ _ c.loop-argument.invariant c.in-None.ensures.steps.0
