use Rattle.std.proofs.Common.{drop, refl, sym, subst}
use Rattle.std.proofs.lemmas.List.{take-append-drop}
use Rattle.std.proofs.lemmas.Result.{on_ok_weaker}
use Rattle.names_commands.specs.Back.{joining, with_last}
use Rattle.list_programs.specs.ListRun.{IsOutput}
use Rattle.names_commands.specs.Task.{rules_of}
use Rattle.names_commands.specs.declared.task.EmptyLine.TheVariants.{IsEmptyName}
use Rattle.list_programs.specs.declared.options.LastItem.TheVariants.{MustEnd}
use Rattle.test_command_uses.proofs.joining.first_names_again.Goals as goal

pub returns : goal.returns
returns g c =
    let lines = c.args.lines.now in
    let first = c.names_come_back.ensures.cut IsEmptyName c.args.list c.args.list c.args.names.now lines in
    on_ok_weaker c.run_over.result
    (λ written. (
      written.0,
      (
        first _ (drop c.args.cut lines) written.0 refl c.requires.listed (sym (take-append-drop c.args.cut lines))
            (subst (λ x. IsOutput (rules_of g.E.Platform (joining IsEmptyName (with_last MustEnd c.args.list))) x written.0) c.split_at.ensures.front written.1.0),
        written.1.1,
      ),
    ))
    c.run_over.ensures.written
