use Rattle.std.proofs.Common.{◌∙◌, ap, sym, subst, length, ◌<◌, arith}
use Rattle.os_command_line.proofs.lemmas.WindowsOneReading.{no_arguments, complete_next}
use Rattle.os_command_line.proofs.windows.arguments.ArgumentsIterator.next.Goals as goal

pub returns-in_default-clause-steps : goal.returns-in_default-clause-steps
returns-in_default-clause-steps c = let none = sym (ap (λ v. v.1) c.self.view_is) ∙ no_arguments _ c.in_default.ensures in (none, none)

pub returns-clause-steps : goal.returns-clause-steps
returns-clause-steps c = sym (ap (λ v. v.1) c.self.view_is) ∙ complete_next _ _ _ c.in-Some.ensures

pub returns-clause-goes : goal.returns-clause-goes
returns-clause-goes c =
    let e = sym (ap (λ v. v.1) c.self.view_is) ∙ complete_next _ _ _ c.in-Some.ensures in
    record { on = λ _. (tt, tt, subst (λ l. length (Rattle.os_command_line.specs.WindowsReader.arguments_in (Rattle.wtf8_core.specs.UnitsOf.units_of (Rattle.platform_str.specs.Strings.bytes c.in-Some.rest))) < length l) (sym e) (omega arith)); keeps = tt; rests = λ _. tt }
