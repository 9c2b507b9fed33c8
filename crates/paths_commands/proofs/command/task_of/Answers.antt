use Rattle.std.proofs.Common.{rules, ◌≡◌, ◌∷◌, [], refl}
use Rattle.std.specs.Prelude.{false}
use Rattle.list_programs.specs.Arguments.{HasOption, operands_of}
use Rattle.paths_commands.specs.declared.option.PathsOption.TheVariants.{Checked, KeepSeparator}
use Rattle.paths_commands.specs.Task.{IsChecked, KeepsSeparator}
use Rattle.paths_commands.proofs.lemmas.Found.{task_found, without_option}
use Rattle.paths_commands.proofs.lemmas.Surplus.{surplus_first, surplus_second}
use Rattle.paths_commands.proofs.command.task_of.Goals as goal

pub returns-in-Some-surplus_in-clause-misuse : goal.returns-in-Some-surplus_in-clause-misuse
returns-in-Some-surplus_in-clause-misuse c =
    let found = c.in-Some-surplus_in.ensures in
    surplus_first c.args.after_end c.args.given.now c.args.name c.args.os (operands_of c.args.more.now) found.0 c.in-Some-surplus_in.word.now c.surplus.result c.requires c.in_default.ensures found.1.0 found.1.1 c.surplus.ensures

pub returns-in-None-clause-operands : goal.returns-in-None-clause-operands
returns-in-None-clause-operands c =
    task_found c.args.after_end c.args.given.now c.args.name false false c.args.os [] (operands_of c.args.more.now) (operands_of c.args.more.now) c.without_operand.result (c.without_operand.ensures c.args.os) c.requires refl

pub returns-in-None-clause-checked : goal.returns-in-None-clause-checked
returns-in-None-clause-checked c =
    without_option c.has-is_checked.result c.args.name (IsChecked c.without_operand.result) (HasOption Checked c.args.given.now) c.in_default.ensures (c.if-not-is_placed.ensures.yes refl) (c.without_operand.ensures c.args.os).1.0 c.has-is_checked.ensures

pub returns-in-None-clause-keeps : goal.returns-in-None-clause-keeps
returns-in-None-clause-keeps c =
    without_option c.has-keeps.result c.args.name (KeepsSeparator c.without_operand.result) (HasOption KeepSeparator c.args.given.now) c.in_default.ensures (c.if-not-is_placed-2.ensures.yes refl) (c.without_operand.ensures c.args.os).1.1.0 c.has-keeps.ensures

pub returns-in-None-clause-style : goal.returns-in-None-clause-style
returns-in-None-clause-style c = (c.without_operand.ensures c.args.os).1.1.1.0

pub returns-in-Some-surplus_in-2-clause-misuse : goal.returns-in-Some-surplus_in-2-clause-misuse
returns-in-Some-surplus_in-2-clause-misuse c =
    let found = c.in-Some-surplus_in-2.ensures in
    let first : operands_of c.args.more.now ≡ c.in-Some-next_operand.operand.now ∷ operands_of c.in-Some-next_operand.rest.now = search rules in
    surplus_second c.args.after_end c.args.given.now c.args.name c.args.os (operands_of c.args.more.now) (operands_of c.in-Some-next_operand.rest.now) found.0 c.in-Some-next_operand.operand.now c.in-Some-surplus_in-2.word.now c.surplus-in-Some-surplus_in-2.result c.requires c.in-Some.ensures.0 first found.1.0 found.1.1 c.surplus-in-Some-surplus_in-2.ensures
