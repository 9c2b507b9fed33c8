use Rattle.std.proofs.Common.{ap, ◌∙◌}
use Rattle.os_ignore.specs.ClassSteps.{all_cases}
use Rattle.os_ignore.proofs.lemmas.Classes.{folded_class, exact_class}
use Rattle.os_ignore.proofs.class.class_of.Goals as goal

pub returns-in_ok-all_cases : goal.returns-in_ok-all_cases
returns-in_ok-all_cases g c =
    folded_class c.args.negated c.args.ranges.items c.args.folds c.new.result _ c.if-folds.true (c.in_ok-all_cases.ensures ∙ ap all_cases c.deref.ensures.value) c.new.ensures

pub returns-else-folds : goal.returns-else-folds
returns-else-folds g c = exact_class c.args.negated c.args.ranges.items c.args.folds c.new-else-folds.result c.if-folds.false c.new-else-folds.ensures
