use Rattle.std.proofs.Common.{◌≡◌, ap, ◌∙◌, subst}
use Rattle.std.specs.Option.{option_map}
use Rattle.std.specs.Prelude.{Some, Ok}
use Rattle.os_args.specs.Kinds.{kind_of}
use Rattle.os_args.specs.Reading.{TakesWord}
use Rattle.os_args.specs.Views.{outcome_of, reading}
use Rattle.list_programs.proofs.lemmas.Arguments.{completed}
use Rattle.list_programs.proofs.arguments.read_one.Goals as goal

pub returns-in-Ok-clause-read : goal.returns-in-Ok-clause-read
returns-in-Ok-clause-read g c =
    let e : c.next.result ≡ Ok (Some c.in-Ok-Some.word) = c.in-Ok-Some.is ∙ ap Ok c.in-Ok-Some.field-0-is in
    let taken = subst (λ o. TakesWord (reading c.args.arguments.now) o (reading c.next.new.self)) (ap (outcome_of (λ read. option_map kind_of read)) e) c.next.ensures in
    completed g.O.ProgramOption.spelled g.O.ProgramOption.has_value (reading c.args.arguments.now) (reading c.next.new.self) (reading c.read_option.new.arguments) (kind_of c.in-Ok-Some.word) c.in-Ok.given taken c.in-Ok.ensures.read
