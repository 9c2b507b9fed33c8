use Rattle.std.proofs.Common.{◌≡◌, ◌∷◌, ◌++◌, inr, map, refl, subst, sym, ap, ◌∙◌}
use Rattle.std.proofs.lemmas.Bool.{false≢true}
use Rattle.list_programs.specs.Arguments.{AreValues, HasOption}
use Rattle.names_commands.specs.declared.option.NamesOption.TheVariants.{Help, Ignore, Version}
use Rattle.names_commands.specs.Command.{IsMisuse, IsRejected, Line}
use Rattle.names_commands.specs.Ignoring.{text_of}
use Rattle.list_programs.specs.declared.misuse.Misuse.{Misuse}
use Rattle.names_commands.proofs.lemmas.NeverBoth.{no_request}
use Rattle.names_commands.proofs.command.Request.parse.Goals as goal

rejected : (given : Line) → ¬ (HasOption Help given) → ¬ (HasOption Version given) → (misuse : Misuse) → IsMisuse given misuse → IsRejected given misuse
rejected given help version misuse wrong = record { no_request = no_request given help version misuse wrong; wrong = wrong }

pub returns-in-Err-clause-error : goal.returns-in-Err-clause-error
returns-in-Err-clause-error g c =
    let given = c.args.given.now in
    let no_help : ¬ (HasOption Help given) = λ h. false≢true (sym c.if-has.false ∙ c.has.ensures.1 h) in
    let no_version : ¬ (HasOption Version given) = λ h. false≢true (sym c.if-has-2.false ∙ c.has-2.ensures.1 h) in
    rejected given no_help no_version c.in-Err.misuse c.in-Err.ensures.misuse

pub returns-in-Err-parse-clause-error : goal.returns-in-Err-parse-clause-error
returns-in-Err-parse-clause-error g c =
    let given = c.args.given.now in
    let no_help : ¬ (HasOption Help given) = λ h. false≢true (sym c.if-has.false ∙ c.has.ensures.1 h) in
    let no_version : ¬ (HasOption Version given) = λ h. false≢true (sym c.if-has-2.false ∙ c.has-2.ensures.1 h) in
    rejected given no_help no_version c.in-Err-parse.misuse c.in-Err-parse.ensures.misuse

pub returns-in-Some-clause-error : goal.returns-in-Some-clause-error
returns-in-Some-clause-error g c =
    let given = c.args.given.now in
    let no_help : ¬ (HasOption Help given) = λ h. false≢true (sym c.if-has.false ∙ c.has.ensures.1 h) in
    let no_version : ¬ (HasOption Version given) = λ h. false≢true (sym c.if-has-2.false ∙ c.has-2.ensures.1 h) in
    let outside = c.in-Some.ensures in
    let joined : map text_of c.in_ok-files.files.items ≡ outside.0 ++ c.in-Some.value.now ∷ outside.1.0 = ap (map text_of) (sym c.deref.ensures.value) ∙ outside.1.1.0 in
    let values : AreValues Ignore given (outside.0 ++ c.in-Some.value.now ∷ outside.1.0) = subst (AreValues Ignore given) joined c.in_ok-files.ensures in
    let wrong = inr (inr (refl, (outside.0, outside.1.0, (values, outside.1.1.1)))) in
    rejected given no_help no_version _ wrong
